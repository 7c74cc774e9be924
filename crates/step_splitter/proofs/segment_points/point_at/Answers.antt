use Rattle.std.proofs.Common.{sym}
use Rattle.step_splitter.proofs.ChainLemmas.{last_point}
use Rattle.step_splitter.proofs.segment_points.point_at.Goals as goal

pub returns-then-index-count : goal.returns-then-index-count
returns-then-index-count c =
    rw c.if-index-count.true (sym (last_point c.args.p c.args.q 1 c.args.count c.requires.some))
