use Rattle.design_review.proofs.BlockLemmas.{stopped}
use Rattle.design_review.proofs.open_block.OpenBlock.after_cut.Goals as goal

pub returns-in-Stop-clause-blocks : goal.returns-in-Stop-clause-blocks
returns-in-Stop-clause-blocks c =
    rw c.new.ensures.value (stopped _ _ c.args.self c.args.act c.in-Stop.is c.in_ok-push.ensures.ok)
