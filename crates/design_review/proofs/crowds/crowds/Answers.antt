use Rattle.std.proofs.Common.{◌∙◌, ℕ}
use Rattle.std.proofs.lemmas.List.Sorted.{IsNonDecreasingBy-from_sort}
use Rattle.design_review.specs.NeedleKeys.{key_of}
use Rattle.design_review.proofs.CrowdLemmas.{crowd_found}
use Rattle.design_review.proofs.crowds.crowds.Goals as goal

pub crowds_among-requires-clause-sorted : goal.crowds_among-requires-clause-sorted
crowds_among-requires-clause-sorted c =
    rw c.as_slice.ensures.value (IsNonDecreasingBy-from_sort (λ (n : ℕ). n) c.sort_unstable.new.self.items c.sort_unstable.ensures.sorted)

pub returns : goal.returns
returns c = λ p here there. c.in_ok-crowds.ensures (key_of p) ∙ rw c.as_slice.ensures.value (crowd_found c.args.least c.args.needles.now
    c.sort_unstable.new.self.items p c.if-least-eq0.false
    (rw c.in_ok-keys.ensures at c.sort_unstable.ensures.permutation) c.requires.in_range here there)
