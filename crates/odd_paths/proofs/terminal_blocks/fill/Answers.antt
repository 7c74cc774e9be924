use Rattle.odd_paths.proofs.LaneLemmas.{capped_blank, columns_settled}
use Rattle.odd_paths.proofs.terminal_blocks.fill.Goals as goal

pub begin-requires-clause-capped : goal.begin-requires-clause-capped
begin-requires-clause-capped c = capped_blank c.args.n c.args.table.now c.requires.blank

pub returns : goal.returns
returns c =
    columns_settled c.args.edges.now c.args.n c.args.terminals.now c.args.table.now c.begin.new.table c.settle.new.table c.requires.blank
    c.requires.graph c.requires.few c.requires.there c.begin.auto.table c.begin.ensures.begun
    c.settle.ensures.keeps c.settle.ensures.settled
