use Rattle.program_shell.proofs.CallerLemmas.{settles_taken}
use Rattle.picture_commands.specs.DrawnPictures.{drawn_read}
use Rattle.picture_commands.specs.Orders.{drawn_order}
use Rattle.picture_commands.specs.Words.{requested_file}
use Rattle.picture_commands.proofs.drawn.draw_lines.Goals as goal

pub returns : goal.returns
returns g c = settles_taken _ _ (drawn_read (drawn_order (requested_file c.args.names))) _ _ _ _
    c.in_ok-read.ensures.takes c.lines_drawn.ensures
