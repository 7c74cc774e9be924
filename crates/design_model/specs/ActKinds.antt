-- The three kinds of acts, as tests, with and without the number of the command.
use Rattle.std.specs.Prelude.{Bool, true, false, Option, Some, None}
use Rattle.design_model.specs.declared.act.Act.{Act}
use Rattle.design_model.specs.declared.act.Act.TheVariants as act
use Rattle.design_model.specs.declared.act.NumberedAct.{NumberedAct}
use Rattle.design_model.specs.declared.point.Point.{Point}

-- The test whether an act without its number is a needle penetration.
abbrev pub is_bare_needle : Act → Bool
is_bare_needle (act.Needle p float) = true
is_bare_needle act.Trim = false
is_bare_needle act.Stop = false

-- The test whether an act without its number is a trim.
abbrev pub is_bare_trim : Act → Bool
is_bare_trim (act.Needle p float) = false
is_bare_trim act.Trim = true
is_bare_trim act.Stop = false

-- The test whether an act without its number is a stop.
abbrev pub is_bare_stop : Act → Bool
is_bare_stop (act.Needle p float) = false
is_bare_stop act.Trim = false
is_bare_stop act.Stop = true

-- The point of an act without its number: the penetration, or none for a trim or a stop.
abbrev pub act_point : Act → Option Point
act_point (act.Needle p float) = Some p
act_point act.Trim = None
act_point act.Stop = None

-- The test whether a numbered act is a needle penetration.
abbrev pub is_needle : NumberedAct → Bool
is_needle a = is_bare_needle a.act

-- The test whether a numbered act is a trim.
abbrev pub is_trim : NumberedAct → Bool
is_trim a = is_bare_trim a.act

-- The test whether a numbered act is a stop.
abbrev pub is_stop : NumberedAct → Bool
is_stop a = is_bare_stop a.act

-- The penetration of a numbered act, or none for a trim or a stop.
abbrev pub needle_point : NumberedAct → Option Point
needle_point a = act_point a.act
