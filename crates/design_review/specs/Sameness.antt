-- Designs without a difference of acts have the same acts.
use Rattle.std.specs.Prelude.{◌≡◌, ◌↔◌, None}
use Rattle.design_model.specs.Acts.{acts_of, acts_without_numbers}
use Rattle.design_model.specs.Designs.{DesignValue}
use Rattle.design_review.specs.Differences.{act_difference_of}

-- Two designs have no difference of acts exactly where their acts are the same.
abbrev pub NoDifferenceIsSameness : Type 0
NoDifferenceIsSameness = (first second : DesignValue) → (act_difference_of first second ≡ None)
    ↔ (acts_without_numbers (acts_of first) ≡ acts_without_numbers (acts_of second))
