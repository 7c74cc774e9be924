-- Chains of the traced drawing: new links of a block that follow each other, in whole tenths of a
-- millimetre.
use Rattle.std.specs.Prelude.{Bool, true, false, List, [], ◌∷◌, filter, map, if◌then◌else◌}
use Rattle.std.specs.List.{list_any, slice_split}
use Rattle.design_model.specs.declared.act.NumberedAct.{NumberedAct}
use Rattle.design_model.specs.declared.point.Point.{Point}
use Rattle.stitch_trace.specs.declared.links.Link.{Link}
use Rattle.stitch_trace.specs.declared.needle_moves.NeedleMove.{NeedleMove}
use Rattle.stitch_trace.specs.declared.needle_moves.NeedleMove.TheVariants.{Stay, Gap, Sewn}
use Rattle.stitch_trace.specs.Links.{is_same_link, links_in, needle_moves_of}

-- A link equals one of the links before it.
abbrev pub is_sewn : List Link → Link → Bool
is_sewn before link = list_any (λ one. is_same_link one link) before

-- The moves after the given links, where a gap replaces each link that was sewn before. Only the
-- first of equal links is new.
abbrev pub new_moves : List Link → List NeedleMove → List NeedleMove
new_moves before [] = []
new_moves before (Stay ∷ rest) = Stay ∷ new_moves before rest
new_moves before (Gap ∷ rest) = Gap ∷ new_moves before rest
new_moves before (Sewn number link ∷ rest) =
    (if is_sewn before link then Gap else Sewn number link) ∷ new_moves (link ∷ before) rest

-- The moves along the acts of a block, where only new links count as sewn.
abbrev pub new_moves_of : List NumberedAct → List NeedleMove
new_moves_of acts = new_moves [] (needle_moves_of acts)

-- The new links of a block, in order.
abbrev pub new_links_of : List NumberedAct → List Link
new_links_of acts = links_in (new_moves_of acts)

-- A move sews nothing and leaves a gap.
abbrev pub is_gap : NeedleMove → Bool
is_gap Stay = false
is_gap Gap = true
is_gap (Sewn number link) = false

-- A list has a link.
abbrev pub has_links : List Link → Bool
has_links [] = false
has_links (link ∷ rest) = true

-- The lists of links between gaps, without the empty ones.
abbrev pub links_between_gaps : List NeedleMove → List (List Link)
links_between_gaps moves = filter has_links (map links_in (slice_split is_gap moves))

-- The points of links that follow each other.
abbrev pub points_through : List Link → List Point
points_through [] = []
points_through (link ∷ rest) = link.from ∷ map (λ one. one.to) (link ∷ rest)

-- The chains of a block, each as its points.
abbrev pub chains_of : List NumberedAct → List (List Point)
chains_of acts = map points_through (links_between_gaps (new_moves_of acts))
