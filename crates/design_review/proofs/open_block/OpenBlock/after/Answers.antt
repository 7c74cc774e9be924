use Rattle.std.proofs.Common.{refl}
use Rattle.design_model.specs.declared.act.Act.TheVariants as act
use Rattle.design_review.proofs.BlockLemmas.{act_next}
use Rattle.design_review.proofs.open_block.OpenBlock.after.Goals as goal

pub returns-in-Needle-clause-blocks : goal.returns-in-Needle-clause-blocks
returns-in-Needle-clause-blocks c = rw c.in-Needle.is (λ n.
    act_next c.args.ended.now c.args.self c.after_needle.result n (act.Needle c.in-Needle.at c.in-Needle.float) refl
    (c.after_needle.ensures.summary n))
