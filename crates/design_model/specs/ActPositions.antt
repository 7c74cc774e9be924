-- The position of the needle and the state of the thread after acts.
use Rattle.std.specs.Prelude.{Bool, true, false, List, [], ◌∷◌}
use Rattle.design_model.specs.declared.act.Act.{Act}
use Rattle.design_model.specs.declared.act.Act.TheVariants.{Needle, Trim, Stop}
use Rattle.design_model.specs.declared.act.NumberedAct.{NumberedAct}
use Rattle.design_model.specs.declared.point.Point.{Point}
use Rattle.design_model.specs.declared.point.TheConstants.{NEEDLE_LIMIT}
use Rattle.design_model.specs.Points.{is_point_within}

-- The position of the needle after an act: the new penetration, or the position before it.
abbrev pub needle_position_after : Point → Act → Point
needle_position_after place (Needle p float) = p
needle_position_after place Trim = place
needle_position_after place Stop = place

-- The test whether the thread is loose after an act: a trim and a stop leave it loose.
abbrev pub leaves_thread_loose : Act → Bool
leaves_thread_loose (Needle p float) = false
leaves_thread_loose Trim = true
leaves_thread_loose Stop = true

-- The test whether the point of an act, if any, is in the range of a needle.
abbrev pub is_act_in_range : Act → Bool
is_act_in_range (Needle p float) = is_point_within NEEDLE_LIMIT p
is_act_in_range Trim = true
is_act_in_range Stop = true

-- The position of the needle after all acts of a list.
abbrev pub needle_position_along : Point → List NumberedAct → Point
needle_position_along place [] = place
needle_position_along place (a ∷ rest) = needle_position_along (needle_position_after place a.act)
    rest
