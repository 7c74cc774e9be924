use Rattle.std.proofs.Common.{None}
use Rattle.sewing_edits.proofs.MergeLemmas.{merged_order}
use Rattle.sewing_edits.proofs.Names.{acts_of, acts_without_numbers, in_order, rewritten_has}
use Rattle.sewing_edits.proofs.merges.merge.Goals as goal

pub returns-clause-acts : goal.returns-clause-acts
returns-clause-acts c = rewritten_has c.args.design.now _ c.rewrite.result
    (merged_order c.args.limit None (acts_without_numbers (acts_of c.args.design.now)) (in_order c.args.design.now)) c.rewrite.ensures
