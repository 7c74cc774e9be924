use Rattle.std.proofs.Common.{refl}
use Rattle.design_review.specs.declared.straight_lengths.TheConstants.{KEPT, NO_LENGTH}
use Rattle.design_review.proofs.KeptLemmas.{none_kept}
use Rattle.design_review.proofs.straight_lengths.StraightLengths.new.Goals as goal

pub invariant_of-result : goal.invariant_of-result
invariant_of-result c =
    none_kept KEPT NO_LENGTH c.in_ok-kept.kept.items refl (c.in_ok-kept.ensures.items_if_clones_equal (λ y h. h))
