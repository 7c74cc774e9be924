-- Needles that are too near the one before. The limit is the shortest stitch that stays, in whole
-- tenths of a millimetre, by the straight distance.
use Rattle.std.specs.Prelude.{◌≡◌, ℕ, ◌*◌, Bool, true, false, ◌&&◌, ◌||◌, not, nat_lt, List, [], ◌∷◌, Option, Some, None, if◌then◌else◌}
use Rattle.design_model.specs.declared.act.Act.{Act}
use Rattle.design_model.specs.declared.act.Act.TheVariants as act
use Rattle.design_model.specs.declared.point.Point.{Point}
use Rattle.design_model.specs.ActKinds.{act_point}
use Rattle.design_model.specs.Lengths.{square_of}
use Rattle.design_rewrites.specs.OrderedActs.{are_in_order}
use Rattle.design_rewrites.specs.Threads.{is_thread_end}

-- The test whether a point is nearer than the limit to the needle before, if there is one.
abbrev pub is_nearer : ℕ → Option Point → Point → Bool
is_nearer limit None p = false
is_nearer limit (Some before) p = nat_lt (square_of before p) (limit * limit)

-- The acts with near needles left out, given the needle that was kept before them in their thread,
-- if there is one. A needle that ends a thread stays.
abbrev pub merged_from : ℕ → Option Point → List Act → List Act
merged_from limit before [] = []
merged_from limit before (act.Needle p float ∷ rest) =
    if is_nearer limit before p && not (is_thread_end rest) then merged_from limit before rest
    else act.Needle p float ∷ merged_from limit (Some p) rest
merged_from limit before (act.Trim ∷ rest) = act.Trim ∷ merged_from limit None rest
merged_from limit before (act.Stop ∷ rest) = act.Stop ∷ merged_from limit None rest

-- The acts of a design with near needles left out.
abbrev pub merged_acts : ℕ → List Act → List Act
merged_acts limit acts = merged_from limit None acts

-- The test whether the stitch or float to an act is as long as the limit, or the last of a thread.
abbrev pub is_long_enough : ℕ → Option Point → Act → List Act → Bool
is_long_enough limit before (act.Needle p float) rest =
    not (is_nearer limit before p) || is_thread_end rest
is_long_enough limit before act.Trim rest = true
is_long_enough limit before act.Stop rest = true

-- The test whether each stitch or float of a list of acts is as long as the limit, or the last of a
-- thread.
abbrev pub are_long_enough : ℕ → Option Point → List Act → Bool
are_long_enough limit before [] = true
are_long_enough limit before (a ∷ rest) =
    is_long_enough limit before a rest && are_long_enough limit (act_point a) rest

-- No stitch or float that is kept is shorter than the limit but the last of a thread.
abbrev pub MergeLeavesNoShortStitch : Type 0
MergeLeavesNoShortStitch = (limit : ℕ) (acts : List Act)
    → are_long_enough limit None (merged_acts limit acts) ≡ true

-- The acts that are no needle inside a thread: trims, stops, and the first and last needle of each
-- thread.
abbrev pub thread_ends : Option Point → List Act → List Act
thread_ends before [] = []
thread_ends None (act.Needle p float ∷ rest) = act.Needle p float ∷ thread_ends (Some p) rest
thread_ends (Some before) (act.Needle p float ∷ rest) =
    if is_thread_end rest then act.Needle p float ∷ thread_ends (Some p) rest
    else thread_ends (Some p) rest
thread_ends before (act.Trim ∷ rest) = act.Trim ∷ thread_ends None rest
thread_ends before (act.Stop ∷ rest) = act.Stop ∷ thread_ends None rest

-- The ends of threads, the trims and the stops stay, in order.
abbrev pub MergeKeepsEnds : Type 0
MergeKeepsEnds = (limit : ℕ) (acts : List Act)
    → thread_ends None (merged_acts limit acts) ≡ thread_ends None acts

-- Acts in order stay in order when near needles are left out.
abbrev pub MergeKeepsOrder : Type 0
MergeKeepsOrder = (limit : ℕ) (acts : List Act) → are_in_order true acts ≡ true
    → are_in_order true (merged_acts limit acts) ≡ true
