use Rattle.stitch_cli.proofs.Names.{settles_taken, IsSewnBy, sewing_read, sewing_order}
use Rattle.stitch_cli.proofs.sewing.sew_by.Goals as goal

pub returns : goal.returns
returns g c = settles_taken _ _ (sewing_read (IsSewnBy c.args.way) (sewing_order c.args.names _)) _ _ _ _
    c.in_ok-drawing.ensures c.sew_drawing.ensures
