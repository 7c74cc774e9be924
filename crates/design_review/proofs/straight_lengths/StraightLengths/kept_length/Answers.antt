use Rattle.design_review.proofs.KeptLemmas.{kept_found}
use Rattle.design_review.proofs.straight_lengths.StraightLengths.kept_length.Goals as goal

pub returns-in-Some : goal.returns-in-Some
returns-in-Some c = kept_found c.self.inside.kept.items c.args.square c.in-Some.kept.now c.args.from c.args.to c.self.invariant c.requires
    (rw c.deref.ensures.value at c.in-Some.ensures.lookup.0) (rw c.deref.ensures.value at c.in-Some.ensures.lookup.1) c.if-kept.true
