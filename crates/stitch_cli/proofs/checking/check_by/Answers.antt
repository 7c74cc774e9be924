use Rattle.stitch_cli.proofs.Names.{check_drawing, check_order, takes_next}
use Rattle.stitch_cli.proofs.checking.check_by.Goals as goal

pub returns-clause-prepares : goal.returns-clause-prepares
returns-clause-prepares g c = λ m is.
    takes_next _ _ (check_drawing (check_order c.args.names m)) _ _ _ _ _ c.in_ok-drawing.ensures (c.check_file.ensures.prepares m is)
