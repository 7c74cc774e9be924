use Rattle.line_sections.proofs.SectionLemmas.{line_segments, lines_long}
use Rattle.line_sections.proofs.theorems.sections_keep_segments.Goals as goal

pub returns-clause-segments : goal.returns-clause-segments
returns-clause-segments c = line_segments

pub returns-clause-each : goal.returns-clause-each
returns-clause-each c = lines_long
