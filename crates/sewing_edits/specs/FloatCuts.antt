-- Floats that become trims. The limit is the longest float that stays, in whole tenths of a
-- millimetre, by the straight distance.
use Rattle.std.specs.Prelude.{◌≡◌, ℕ, ◌*◌, Bool, true, false, ◌&&◌, not, nat_lt, List, [], ◌∷◌, ◌++◌, Option, Some, None}
use Rattle.std.specs.List.{filter_map}
use Rattle.design_model.specs.declared.act.Act.{Act}
use Rattle.design_model.specs.declared.act.Act.TheVariants as act
use Rattle.design_model.specs.declared.point.Point.{Point}
use Rattle.design_model.specs.ActKinds.{act_point}
use Rattle.design_model.specs.Lengths.{square_of}
use Rattle.design_rewrites.specs.OrderedActs.{are_in_order}

-- The test whether a point is farther than the limit from the needle before, if there is one.
abbrev pub is_farther : ℕ → Option Point → Point → Bool
is_farther limit None p = false
is_farther limit (Some before) p = nat_lt (limit * limit) (square_of before p)

-- The acts for a needle act, given whether it is to be cut off: a trim before it, or none.
abbrev pub cut_if : Bool → Point → Bool → List Act
cut_if true p float = act.Trim ∷ act.Needle p false ∷ []
cut_if false p float = act.Needle p float ∷ []

-- The acts with long floats cut, given the needle before them in their thread, if there is one.
abbrev pub cut_from : ℕ → Option Point → List Act → List Act
cut_from limit before [] = []
cut_from limit before (act.Needle p float ∷ rest) =
    cut_if (float && is_farther limit before p) p float ++ cut_from limit (Some p) rest
cut_from limit before (act.Trim ∷ rest) = act.Trim ∷ cut_from limit None rest
cut_from limit before (act.Stop ∷ rest) = act.Stop ∷ cut_from limit None rest

-- The acts of a design with its long floats cut.
abbrev pub cut_acts : ℕ → List Act → List Act
cut_acts limit acts = cut_from limit None acts

-- The test whether a needle act is no float, or is within the limit of the needle before.
abbrev pub is_float_within : ℕ → Option Point → Act → Bool
is_float_within limit before (act.Needle p float) = not (float && is_farther limit before p)
is_float_within limit before act.Trim = true
is_float_within limit before act.Stop = true

-- The test whether each float of a list of acts is within the limit.
abbrev pub are_floats_within : ℕ → Option Point → List Act → Bool
are_floats_within limit before [] = true
are_floats_within limit before (a ∷ rest) =
    is_float_within limit before a && are_floats_within limit (act_point a) rest

-- No float that is longer than the limit is left.
abbrev pub CutLeavesNoLongFloat : Type 0
CutLeavesNoLongFloat = (limit : ℕ) (acts : List Act)
    → are_floats_within limit None (cut_acts limit acts) ≡ true

-- The needle points stay, in order.
abbrev pub CutKeepsNeedles : Type 0
CutKeepsNeedles = (limit : ℕ) (acts : List Act)
    → filter_map act_point (cut_acts limit acts) ≡ filter_map act_point acts

-- Acts in order stay in order when their long floats are cut.
abbrev pub CutKeepsOrder : Type 0
CutKeepsOrder = (limit : ℕ) (acts : List Act) → are_in_order true acts ≡ true
    → are_in_order true (cut_acts limit acts) ≡ true
