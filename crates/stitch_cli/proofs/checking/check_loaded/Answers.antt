use Rattle.stitch_cli.proofs.Names.{cert_of, check_cert, check_order, settles_taken}
use Rattle.stitch_cli.proofs.checking.check_loaded.Goals as goal

pub returns : goal.returns
returns g c = λ m. settles_taken _ cert_of (check_cert (check_order c.args.names m) c.args.drawing.now c.args.loaded.now.design) _ _ _ _
    c.in_ok-pieces.ensures.takes c.judged.ensures
