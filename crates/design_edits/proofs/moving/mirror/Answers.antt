use Rattle.design_edits.proofs.MoveLemmas.{mirror_in_range}
use Rattle.design_edits.proofs.moving.mirror.Goals as goal

pub move_points-requires-clause-in_range : goal.move_points-requires-clause-in_range
move_points-requires-clause-in_range c = mirror_in_range c.args.axis c.args.design.now
