use Rattle.std.proofs.Common.{◌<◌, length, subst}
use Rattle.design_edits.proofs.Names.{motion_map, with_mapped_point}
use Rattle.design_edits.proofs.MoveLemmas.{next_inside, next_mapped}
use Rattle.design_edits.proofs.moving.move_points.Goals as goal

pub move_point-requires-clause-in_range : goal.move_point-requires-clause-in_range
move_point-requires-clause-in_range c = next_inside (with_mapped_point (motion_map c.args.motion)) c.loop-index.index
    c.args.design.now c.loop-index.design (subst (λ cs. c.loop-index.index < length cs) c.commands-index-end.ensures.value
    c.loop-index-test.true) c.loop-index.invariant
    (c.requires.in_range c.commands-index-end.ensures.limits)

pub loop-index-preserved : goal.loop-index-preserved
loop-index-preserved c = next_mapped (with_mapped_point (motion_map c.args.motion)) c.loop-index.index
    c.args.design.now c.loop-index.design (subst (λ cs. c.loop-index.index < length cs) c.commands-index-end.ensures.value
    c.loop-index-test.true) c.loop-index.invariant c.move_point.new.design
    c.move_point.ensures
