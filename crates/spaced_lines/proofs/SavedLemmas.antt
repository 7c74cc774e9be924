-- A spaced line can be sewn, and each point that is left out saves a step.
use Rattle.std.proofs.Common.{◌≡◌, ◌≢◌, ℕ, ◌+◌, ◌≤◌, Bool, true, not, nat_le, List, [], ◌∷◌, ◌++◌, length, All, arith}
use Rattle.std.proofs.lemmas.Grind.{div_ceil_times}
use Rattle.std.specs.Int.{div_ceil}
use Rattle.spaced_lines.proofs.Names.{nat_tests, All-cons, All-head, All-tail, length-append, Point, all_right, distance_between, is_same_point, is_stitch_for, EachPointSavesAStep, SpacedLinesAreLines, SpacingRule, first_true, second_true, leb-true, may_leave_out, segment_steps, HasNoRepeatAfter, IsNeedlePoint, SplitPointsLead}
use Rattle.step_splitter.specs.Steps.{steps_of}
use Rattle.spaced_lines.proofs.SpacingLemmas.{kept_after, left_out_stitch, of_kept}

-- a stitch is one step
one_step : (size step : ℕ) → 1 ≤ step → size ≤ step → div_ceil size step ≤ 1
one_step size step low most = let t = div_ceil_times size step low in grind arith

stitch_is_step : (rule : SpacingRule) (a b : Point) (points : List Point) → 1 ≤ rule.step → is_stitch_for rule a b points ≡ true
    → steps_of a b rule.step ≤ 1
stitch_is_step rule a b points low is = one_step (distance_between a b) rule.step low
    (leb-true (distance_between a b) rule.step
    (first_true (nat_le (distance_between a b) rule.step) _ (second_true (not (is_same_point a b)) _ is)))

moving_later : (a : Point) (out : List Point) (b : Point) (after : List Point) → HasNoRepeatAfter a (out ++ b ∷ after)
    → HasNoRepeatAfter b after
moving_later a [] b after moves = moves.1
moving_later a (p ∷ out) b after moves = moving_later p out b after moves.1

moving_with : (stays : Point → Bool) (rule : SpacingRule) (a b : Point) (out after : List Point) → may_leave_out stays rule a out b ≡ true
    → HasNoRepeatAfter a (out ++ b ∷ after) → a ≢ b
moving_with stays rule a b [] after may moves = moves.0
moving_with stays rule a b (p ∷ out) after may moves = grind (arith, nat_tests, (left_out_stitch stays rule a p out b may))

moving_after : (stays : Point → Bool) (rule : SpacingRule) (a : Point) (points : List Point)
    → HasNoRepeatAfter a points → HasNoRepeatAfter a (kept_after stays rule a points)
moving_after stays rule = of_kept stays rule (λ a points kept. HasNoRepeatAfter a points → HasNoRepeatAfter a kept) (λ a moves. tt)
    (λ a b out after kept may is moves. (moving_with stays rule a b out after may moves, is (moving_later a out b after moves)))

all_after : (P : Point → Type 0) (stays : Point → Bool) (rule : SpacingRule) (a : Point) (points : List Point)
    → All P points → All P (kept_after stays rule a points)
all_after P stays rule = of_kept stays rule (λ a points kept. All P points → All P kept) (λ a all. all)
    (λ a b out after kept may is all.
    let others = all_right P out (b ∷ after) all in
    All-cons P b kept (All-head P b after others) (is (All-tail P b after others)))

some_after : (stays : Point → Bool) (rule : SpacingRule) (a : Point) (points : List Point)
    → 1 ≤ length points → 1 ≤ length (kept_after stays rule a points)
some_after stays rule = of_kept stays rule (λ a points kept. 1 ≤ length points → 1 ≤ length kept) (λ a some. some)
    (λ a b out after kept may is some. omega arith)

-- A line that can be sewn is one after it is spaced.
pub lines_stay_lines : SpacedLinesAreLines
lines_stay_lines stays rule [] line = line
lines_stay_lines stays rule (a ∷ points) line = record {
  long = let some = some_after stays rule a points (omega (arith, line.long)) in omega (arith, some);
  moving = moving_after stays rule a points line.moving;
  in_range = All-cons IsNeedlePoint a (kept_after stays rule a points) (All-head IsNeedlePoint a points line.in_range)
      (all_after IsNeedlePoint stays rule a points (All-tail IsNeedlePoint a points line.in_range));
}

-- each segment has a step
abbrev HasSteps : ℕ → Point → List Point → Type 0
HasSteps step p [] = Unit {0}
HasSteps step p (b ∷ rest) = (1 ≤ steps_of p b step) × HasSteps step b rest

has_steps : SplitPointsLead → (step : ℕ) → 1 ≤ step → (p : Point) (rest : List Point) → IsNeedlePoint p → All IsNeedlePoint rest
    → HasNoRepeatAfter p rest → HasSteps step p rest
has_steps split step low p [] one others moves = tt
has_steps split step low p (b ∷ rest) one others moves =
    let next = All-head IsNeedlePoint b rest others in let lead = split p b step moves.0 one next low in
    (omega (arith, lead.count, lead.some), has_steps split step low b rest next (All-tail IsNeedlePoint b rest others) moves.1)

-- the segments to the point b have a step each
record HasStepsTo (step : ℕ) (a : Point) (out : List Point) (b : Point) (after : List Point) : Type 0 where
  count : length out + 1 + segment_steps step b after ≤ segment_steps step a (out ++ b ∷ after)
  later : HasSteps step b after

steps_to : (step : ℕ) (a : Point) (out : List Point) (b : Point) (after : List Point) → HasSteps step a (out ++ b ∷ after)
    → HasStepsTo step a out b after
steps_to step a [] b after steps = record { count = omega (arith, steps.0); later = steps.1 }
steps_to step a (p ∷ out) b after steps =
    let more = steps_to step p out b after steps.1 in record { count = omega (arith, more.count, steps.0); later = more.later }

-- a stitch takes no more steps than the segments for which it stands, less one for each point that is left out
stitch_saves : (stays : Point → Bool) (rule : SpacingRule) → 1 ≤ rule.step → (a b : Point) (out after : List Point)
    → may_leave_out stays rule a out b ≡ true → HasSteps rule.step a (out ++ b ∷ after)
    → steps_of a b rule.step + length out + segment_steps rule.step b after ≤ segment_steps rule.step a (out ++ b ∷ after)
stitch_saves stays rule low a b [] after may steps = omega arith
stitch_saves stays rule low a b (p ∷ out) after may steps =
    let to = steps_to rule.step a (p ∷ out) b after steps in
    omega (arith, to.count, stitch_is_step rule a b (p ∷ out) low (left_out_stitch stays rule a p out b may))

saves_after : (stays : Point → Bool) (rule : SpacingRule) → 1 ≤ rule.step → (a : Point) (points : List Point) → HasSteps rule.step a points
    → segment_steps rule.step a (kept_after stays rule a points) + length points
    ≤ segment_steps rule.step a points + length (kept_after stays rule a points)
saves_after stays rule low = of_kept stays rule (λ a points kept. HasSteps rule.step a points
    → segment_steps rule.step a kept + length points ≤ segment_steps rule.step a points + length kept)
    (λ a steps. omega arith)
    (λ a b out after kept may is steps.
    let saves = stitch_saves stays rule low a b out after may steps in
    let more = is (steps_to rule.step a out b after steps).later in
    omega (arith, saves, more, length-append out (b ∷ after)))

-- Each point that is left out saves a step.
pub each_saves : SplitPointsLead → EachPointSavesAStep
each_saves split stays rule [] low line = omega arith
each_saves split stays rule (a ∷ points) low line =
    let steps = has_steps split rule.step low a points (All-head IsNeedlePoint a points line.in_range)
    (All-tail IsNeedlePoint a points line.in_range) line.moving in
    let saves = saves_after stays rule low a points steps in omega (arith, saves)
