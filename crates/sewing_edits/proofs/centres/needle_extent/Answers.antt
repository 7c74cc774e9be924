use Rattle.sewing_edits.proofs.ExtentLemmas.{needle_corners}
use Rattle.sewing_edits.proofs.centres.needle_extent.Goals as goal

pub returns-clause-within : goal.returns-clause-within
returns-clause-within c = needle_corners c.args.design.now _ c.keeps_limits.ensures c.extent.ensures.value
