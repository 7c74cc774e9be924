use Rattle.drawing_commands.proofs.Names.{settles_taken, look_read, look_order}
use Rattle.drawing_commands.proofs.looking.look.Goals as goal

pub returns : goal.returns
returns g c = settles_taken _ _ (look_read (look_order c.args.file.now c.args.gap)) _ _ _ _ c.in_ok-read.ensures.takes c.looked.ensures
