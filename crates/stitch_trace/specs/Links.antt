-- Links: what a design sews from one needle point to the next, in whole tenths of a millimetre.
use Rattle.std.specs.Prelude.{ℕ, Bool, ◌&&◌, ◌||◌, max, nat_lt, List, [], ◌∷◌, fold, map, Option, Some, None, if◌then◌else◌}
use Rattle.design_model.specs.declared.act.Act.{Act}
use Rattle.design_model.specs.declared.act.Act.TheVariants as act
use Rattle.design_model.specs.declared.act.NumberedAct.{NumberedAct}
use Rattle.design_model.specs.declared.point.Point.{Point}
use Rattle.design_model.specs.ActKinds.{needle_point}
use Rattle.design_model.specs.Points.{is_same_point, move_between, move_size}
use Rattle.step_splitter.specs.declared.segment.TheConstants.{MAX_STEP}
use Rattle.stitch_trace.specs.declared.links.Link.{Link}
use Rattle.stitch_trace.specs.declared.needle_moves.NeedleMove.{NeedleMove}
use Rattle.stitch_trace.specs.declared.needle_moves.NeedleMove.TheVariants.{Stay, Gap, Sewn}

-- The move of the needle to an act, from the needle point of the act before, if there is one. The
-- needle sews a link where it moves to another point and the thread is neither loose nor carried
-- over.
abbrev pub move_to_act : Option Point → ℕ → Act → NeedleMove
move_to_act None number a = Gap
move_to_act (Some p) number act.Trim = Gap
move_to_act (Some p) number act.Stop = Gap
move_to_act (Some p) number (act.Needle q float) =
    if is_same_point p q then Stay
    else (if float then Gap else Sewn number (record { from = p; to = q }))

-- The moves of the needle to each act. The act before the first has the given needle point, if any.
abbrev pub needle_moves_from : Option Point → List NumberedAct → List NeedleMove
needle_moves_from before [] = []
needle_moves_from before (a ∷ rest) = move_to_act before a.number a.act
    ∷ needle_moves_from (needle_point a) rest

-- The moves of the needle to each act of a block.
abbrev pub needle_moves_of : List NumberedAct → List NeedleMove
needle_moves_of acts = needle_moves_from None acts

-- The links that moves sew.
abbrev pub links_in : List NeedleMove → List Link
links_in [] = []
links_in (Stay ∷ rest) = links_in rest
links_in (Gap ∷ rest) = links_in rest
links_in (Sewn number link ∷ rest) = link ∷ links_in rest

-- Two links have equal endpoints in the same order.
abbrev pub is_same_directed_link : Link → Link → Bool
is_same_directed_link a b = is_same_point a.from b.from && is_same_point a.to b.to

-- A link in the opposite direction.
abbrev pub reversed_link : Link → Link
reversed_link a = record { from = a.to; to = a.from }

-- Two links are equal: they have the same two endpoints, in either order.
abbrev pub is_same_link : Link → Link → Bool
is_same_link a b = is_same_directed_link a b || is_same_directed_link (reversed_link a) b

-- The size of a link on its longer axis.
abbrev pub link_size : Link → ℕ
link_size a = move_size (move_between a.from a.to)

-- The size of the longest link.
abbrev pub longest : List Link → ℕ
longest links = fold max 0 (map link_size links)

-- A link is longer than the longest step of any drawing.
abbrev pub is_too_long : Link → Bool
is_too_long a = nat_lt MAX_STEP (link_size a)

-- The command number of the second needle point of the first link that is too long, if there is
-- one.
abbrev pub first_too_long : List NeedleMove → Option ℕ
first_too_long [] = None
first_too_long (Stay ∷ rest) = first_too_long rest
first_too_long (Gap ∷ rest) = first_too_long rest
first_too_long (Sewn number link ∷ rest) = if is_too_long link then Some number else first_too_long
    rest
