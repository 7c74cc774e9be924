use Rattle.design_edits.proofs.MoveLemmas.{turn_in_range}
use Rattle.design_edits.proofs.moving.turn.Goals as goal

pub move_points-requires-clause-in_range : goal.move_points-requires-clause-in_range
move_points-requires-clause-in_range c = turn_in_range c.args.quarters c.args.design.now
