use Rattle.design_edits.proofs.Names.{motion_map}
use Rattle.design_edits.proofs.MoveLemmas.{stays_there}
use Rattle.design_edits.proofs.moving.move_point.Goals as goal

pub returns-in_default : goal.returns-in_default
returns-in_default c = stays_there (motion_map c.args.motion) c.args.design.now c.args.index _ _ _
    c.commands.ensures.value c.target.ensures c.in_default.is
