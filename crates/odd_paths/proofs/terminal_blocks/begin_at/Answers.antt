use Rattle.odd_paths.proofs.LaneLemmas.{capped_begun, lane_kept}
use Rattle.odd_paths.proofs.terminal_blocks.begin_at.Goals as goal
use Rattle.std.proofs.Common.{arith}
use Rattle.odd_paths.proofs.Names.{map-set, nat_tests}

pub returns-clause-here : goal.returns-clause-here
returns-clause-here c = grind (arith, nat_tests, map-set, c.reach.new.lane, c.reach.ensures.here)

pub returns-clause-others : goal.returns-clause-others
returns-clause-others c = λ k other. lane_kept k c.args.t c.reach.new.lane c.args.table.now (c.reach.ensures.others k other)

pub returns-clause-capped : goal.returns-clause-capped
returns-clause-capped c =
    capped_begun c.args.table.now _ c.args.t c.args.i c.requires.there c.requires.capped (returns-clause-here c) (returns-clause-others c)
