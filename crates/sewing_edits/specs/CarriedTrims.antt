-- Trims that become floats, for machines without a trimmer. The limit is the longest float that
-- comes of a trim, in whole tenths of a millimetre, by the straight distance.
use Rattle.std.specs.Prelude.{◌≡◌, ℕ, ◌*◌, Bool, true, false, ◌&&◌, ◌||◌, not, nat_le, List, [], ◌∷◌, Option, Some, None, if◌then◌else◌}
use Rattle.std.specs.List.{filter_map}
use Rattle.design_model.specs.declared.act.Act.{Act}
use Rattle.design_model.specs.declared.act.Act.TheVariants as act
use Rattle.design_model.specs.declared.point.Point.{Point}
use Rattle.design_model.specs.ActKinds.{act_point}
use Rattle.design_model.specs.Lengths.{square_of}
use Rattle.design_rewrites.specs.OrderedActs.{are_in_order}

-- The test whether the next act is a needle act within the limit of the needle before a trim.
abbrev pub is_near_next : ℕ → Option Point → List Act → Bool
is_near_next limit None rest = false
is_near_next limit (Some before) [] = false
is_near_next limit (Some before) (act.Needle p float ∷ rest) =
    nat_le (square_of before p) (limit * limit)
is_near_next limit (Some before) (act.Trim ∷ rest) = false
is_near_next limit (Some before) (act.Stop ∷ rest) = false

-- The acts with short trims carried over, given whether the thread is carried over to the first of
-- them, and the needle before them in their thread, if there is one.
abbrev pub carried_from : ℕ → (carried : Bool) → Option Point → List Act → List Act
carried_from limit carried before [] = []
carried_from limit carried before (act.Needle p float ∷ rest) =
    act.Needle p (carried || float) ∷ carried_from limit false (Some p) rest
carried_from limit carried before (act.Trim ∷ rest) =
    if is_near_next limit before rest then carried_from limit true None rest
    else act.Trim ∷ carried_from limit false None rest
carried_from limit carried before (act.Stop ∷ rest) = act.Stop ∷ carried_from limit false None rest

-- The acts of a design with its short trims carried over.
abbrev pub carried_acts : ℕ → List Act → List Act
carried_acts limit acts = carried_from limit false None acts

-- The test whether an act is no trim before a needle within the limit.
abbrev pub is_trim_far : ℕ → Option Point → Act → List Act → Bool
is_trim_far limit before (act.Needle p float) rest = true
is_trim_far limit before act.Trim rest = not (is_near_next limit before rest)
is_trim_far limit before act.Stop rest = true

-- The test whether no trim of a list of acts has needles within the limit before and after it.
abbrev pub are_trims_far : ℕ → Option Point → List Act → Bool
are_trims_far limit before [] = true
are_trims_far limit before (a ∷ rest) =
    is_trim_far limit before a rest && are_trims_far limit (act_point a) rest

-- No trim between needles within the limit is left.
abbrev pub CarryLeavesNoNearTrim : Type 0
CarryLeavesNoNearTrim = (limit : ℕ) (acts : List Act)
    → are_trims_far limit None (carried_acts limit acts) ≡ true

-- The needle points stay, in order.
abbrev pub CarryKeepsNeedles : Type 0
CarryKeepsNeedles = (limit : ℕ) (acts : List Act)
    → filter_map act_point (carried_acts limit acts) ≡ filter_map act_point acts

-- Acts in order stay in order when their short trims are carried over.
abbrev pub CarryKeepsOrder : Type 0
CarryKeepsOrder = (limit : ℕ) (acts : List Act) → are_in_order true acts ≡ true
    → are_in_order true (carried_acts limit acts) ≡ true
