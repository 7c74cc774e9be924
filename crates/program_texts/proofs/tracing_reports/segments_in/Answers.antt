use Rattle.std.proofs.Common.{arith}
use Rattle.program_texts.proofs.SegmentLemmas.{segments_counted}
use Rattle.program_texts.proofs.tracing_reports.segments_in.Goals as goal

pub returns-clause-value : goal.returns-clause-value
returns-clause-value c = omega (arith, c.saturating_sub.ensures, segments_counted c.args.points.now)

pub returns-clause-fewer : goal.returns-clause-fewer
returns-clause-fewer c = omega (arith, c.saturating_sub.ensures)
