use Rattle.std.proofs.Common.{None}
use Rattle.sewing_edits.proofs.CutLemmas.{cut_order}
use Rattle.sewing_edits.proofs.Names.{acts_of, acts_without_numbers, in_order, rewritten_has}
use Rattle.sewing_edits.proofs.float_cuts.cut.Goals as goal

pub returns-clause-acts : goal.returns-clause-acts
returns-clause-acts c = rewritten_has c.args.design.now _ c.rewrite.result
    (cut_order c.args.limit None (acts_without_numbers (acts_of c.args.design.now)) (in_order c.args.design.now)) c.rewrite.ensures
