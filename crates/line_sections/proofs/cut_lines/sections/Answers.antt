use Rattle.std.proofs.Common.{ap, ◌∙◌}
use Rattle.line_sections.proofs.Names.{are_whole_lines}
use Rattle.line_sections.proofs.CutLemmas.{sections_told}
use Rattle.line_sections.proofs.WholeLemmas.{sections_whole}
use Rattle.line_sections.proofs.cut_lines.sections.Goals as goal

pub returns-clause-whole : goal.returns-clause-whole
returns-clause-whole c =
    ap are_whole_lines (c.in_ok-sections.ensures ∙ sections_told c.args.lines.now _ c.in_ok-marks.ensures c.args.lines.now)
    ∙ sections_whole c.args.lines.now
