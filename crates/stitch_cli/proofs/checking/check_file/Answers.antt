use Rattle.stitch_cli.proofs.Names.{check_design, check_order, takes_next}
use Rattle.stitch_cli.proofs.checking.check_file.Goals as goal

pub returns-clause-prepares : goal.returns-clause-prepares
returns-clause-prepares g c = λ m is.
    takes_next _ m.reads (check_design (check_order c.args.names m) c.args.drawing.now) _ _ _ _ _
    (c.in_ok-loaded.ensures.loads m is) (c.check_loaded.ensures m)
