use Rattle.std.proofs.Common.{arith}
use Rattle.odd_sets.proofs.Names.{parts_in}
use Rattle.odd_sets.proofs.SlackRowLemmas.{row_is}
use Rattle.odd_sets.proofs.blossom.fill.Goals as goal

pub returns : goal.returns
returns c =
    row_is _ (parts_in c.args.sets.now c.args.parts.now) c.args.members.now c.merge_all.new.cells c.put.new.cells c.requires.members
    (omega (arith, c.put.auto.cells, c.merge_all.auto.cells)) c.merge_all.ensures c.put.ensures.on c.put.ensures.off
