use Rattle.thumbnails.proofs.RedrawingLemmas.{in_any_format}
use Rattle.thumbnails.proofs.redrawing.with_thumbnails.Goals as goal

pub returns-clause-redrawn : goal.returns-clause-redrawn
returns-clause-redrawn c =
    in_any_format c.thumbnails_are_not_read.ensures c.args.design.now c.keeps_limits.ensures c.args.file
