use Rattle.std.proofs.Common.{◌∙◌, ◌*◌, ℕ, ap, sym}
use Rattle.design_model.specs.Lengths.{length_of, whole_root}
use Rattle.design_review.proofs.KeptLemmas.{one_kept}
use Rattle.design_review.proofs.straight_lengths.StraightLengths.computed.Goals as goal

pub invariant_of-self : goal.invariant_of-self
unfolding length_of
invariant_of-self c = one_kept c.self.inside.kept.items c.args.square c.long_length-length.result c.self.invariant
    (c.long_length-length.ensures.value ∙ ap (λ (n : ℕ). whole_root (10000 * n)) (sym c.requires))
