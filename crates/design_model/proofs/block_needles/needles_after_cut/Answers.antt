use Rattle.design_model.proofs.BlockLemmas.{carried_stop}
use Rattle.design_model.proofs.block_needles.needles_after_cut.Goals as goal

pub returns-in-Stop-clause-blocks : goal.returns-in-Stop-clause-blocks
returns-in-Stop-clause-blocks c =
    carried_stop _ _ _ _ c.in_ok-push.ensures.ok c.in-Stop.is
