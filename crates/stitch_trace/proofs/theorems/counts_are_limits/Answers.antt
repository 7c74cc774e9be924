use Rattle.stitch_trace.proofs.CountLemmas.{counts_limit}
use Rattle.stitch_trace.proofs.theorems.counts_are_limits.Goals as goal

pub returns : goal.returns
returns c = counts_limit
