use Rattle.stitch_cli.proofs.StitchRunLemmas.{over_formats}
use Rattle.stitch_cli.proofs.stitch_run.run_over.Goals as goal

pub returns : goal.returns
returns g c = over_formats _ _ _ _ _ c.requires c.run.ensures.ends c.run.ensures.routes c.run.ensures.checks
