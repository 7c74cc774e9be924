-- The comparison of a design's acts with the expected ones, act by act.
use Rattle.std.specs.Prelude.{◌≡◌, ℕ, ◌+◌, ◌≤◌, Bool, false, List, [], ◌∷◌, ◌++◌, Some, Result, Ok, Err, drop, length, map, replicate}
use Rattle.design_model.specs.declared.act.Act.{Act}
use Rattle.design_model.specs.declared.act.Act.TheVariants as act
use Rattle.design_model.specs.declared.act.NumberedAct.{NumberedAct}
use Rattle.design_model.specs.declared.point.Point.{Point}
use Rattle.design_model.specs.Acts.{acts_without_numbers}
use Rattle.route_verdict.specs.ActOrder.{first_differing_act, is_same_act}

-- A list begins with the given act.
abbrev pub begins_with_act : List Act → Act → Bool
begins_with_act [] expected = false
begins_with_act (a ∷ acts) expected = is_same_act a expected

-- The acts of a run after the given number of stops.
abbrev pub run_acts : ℕ → List Point → List Act
run_acts stops points =
    replicate stops act.Stop ++ (map (λ p. act.Needle p false) points ++ act.Trim ∷ [])

-- The comparison of acts, from an index on, with expected ones. Either they are equal and it
-- continues at the next index, or the number of the first difference is known.
abbrev pub ComparesActs : List NumberedAct → ℕ → List Act → Result ℕ ℕ → Type 0
ComparesActs acts at expected (Ok next) = (next ≤ length acts) × ((others : List Act)
    → first_differing_act (at + 1) (acts_without_numbers (drop at acts)) (expected ++ others)
    ≡ first_differing_act (next + 1) (acts_without_numbers (drop next acts)) others)
ComparesActs acts at expected (Err number) = (others : List Act)
    → first_differing_act (at + 1) (acts_without_numbers (drop at acts)) (expected ++ others)
    ≡ Some number
