use Rattle.std.proofs.Common.{rules, drop}
use Rattle.sewing_edits.specs.ThreadTies.{acts_of_needles}
use Rattle.sewing_edits.proofs.ThreadActLemmas.{not_added}
use Rattle.sewing_edits.proofs.thread_edits.put_needles.Goals as goal

pub returns-in_err-put_act : goal.returns-in_err-put_act
returns-in_err-put_act c = not_added _ _ _ (acts_of_needles (drop 1 c.loop-left.left.now)) _ _ _ _ c.from_residual.result
    c.from_residual.ensures.1 c.loop-left.invariant.written
    (c.in_err-put_act.ensures (acts_of_needles (drop 1 c.loop-left.left.now))) (search rules)
