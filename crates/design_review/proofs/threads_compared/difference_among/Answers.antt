use Rattle.std.proofs.Common.{◌∙◌, sym, arith}
use Rattle.design_review.proofs.ThreadLemmas.{next_block}
use Rattle.design_review.proofs.threads_compared.difference_among.Goals as goal

pub loop-block-preserved : goal.loop-block-preserved
loop-block-preserved c = record {
  few = omega (arith, c.loop-block-test.true);
  found = next_block c.args.first.now c.args.second.now c.loop-block.block c.args.blocks (omega (arith, c.loop-block-test.true))
      (sym c.thread-ours.ensures ∙ c.if-ours-theirs.false ∙ c.thread-theirs.ensures) ∙ c.loop-block.invariant.found;
}
