use Rattle.odd_paths.proofs.LaneLemmas.{capped_lane, capped_lowered, lane_lowered}
use Rattle.odd_paths.proofs.lanes.lower.Goals as goal

pub lower_lane-requires-clause-capped : goal.lower_lane-requires-clause-capped
lower_lane-requires-clause-capped c = λ i there. capped_lane c.args.table.now c.args.a i c.requires.capped there

pub returns-clause-value : goal.returns-clause-value
returns-clause-value c = λ i there.
    lane_lowered i c.args.a c.args.b c.args.cost c.lower_lane.new.lane c.args.table.now (c.lower_lane.ensures.value i there)

pub returns-clause-capped : goal.returns-clause-capped
returns-clause-capped c =
    capped_lowered c.args.table.now _ c.args.a c.args.b c.args.cost c.requires.b c.requires.capped (returns-clause-value c)
