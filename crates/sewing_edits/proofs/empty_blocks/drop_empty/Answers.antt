use Rattle.sewing_edits.proofs.BlockLemmas.{needled_in_order, needled_result}
use Rattle.sewing_edits.proofs.Names.{acts_of, acts_without_numbers, in_order, rewritten_has}
use Rattle.sewing_edits.specs.EmptyBlocks.{needled_acts, with_needled_threads}
use Rattle.sewing_edits.proofs.empty_blocks.drop_empty.Goals as goal

pub returns-clause-acts : goal.returns-clause-acts
returns-clause-acts c = rewritten_has (with_needled_threads c.args.design.now)
    (needled_acts (acts_without_numbers (acts_of c.args.design.now))) c.rewrite_onto.result
    (needled_in_order (acts_without_numbers (acts_of c.args.design.now)) (in_order c.args.design.now))
    (needled_result c.args.design.now c.in_ok-base.base c.rewrite_onto.result c.in_ok-base.ensures c.rewrite_onto.ensures)
