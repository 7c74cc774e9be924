use Rattle.stitch_trace.proofs.DistinctLemmas.{distinct_links}
use Rattle.stitch_trace.proofs.theorems.new_links_are_distinct.Goals as goal

pub returns : goal.returns
returns c = distinct_links
