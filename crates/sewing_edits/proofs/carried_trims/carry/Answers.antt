use Rattle.std.proofs.Common.{None, false}
use Rattle.design_model.proofs.ListLemmas.{false_true}
use Rattle.sewing_edits.proofs.CarryLemmas.{carried_order}
use Rattle.sewing_edits.proofs.Names.{acts_of, acts_without_numbers, in_order, rewritten_has}
use Rattle.sewing_edits.proofs.carried_trims.carry.Goals as goal

pub returns-clause-acts : goal.returns-clause-acts
returns-clause-acts c = rewritten_has c.args.design.now _ c.rewrite.result
    (carried_order c.args.limit false None (acts_without_numbers (acts_of c.args.design.now))
    (λ is. absurd (false_true is)) (in_order c.args.design.now))
    c.rewrite.ensures
