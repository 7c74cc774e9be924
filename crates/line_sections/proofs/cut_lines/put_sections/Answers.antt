use Rattle.line_sections.proofs.Names.{get, is_same_spot}
use Rattle.line_sections.proofs.CutLemmas.{line_begun}
use Rattle.line_sections.proofs.cut_lines.put_sections.Goals as goal

pub loop-rest-init : goal.loop-rest-init
loop-rest-init c =
    line_begun (get is_same_spot c.args.marks.now) c.args.line.now _ _ _ _ _ _ c.block-block.ensures c.points.ensures
    c.in-Some.ensures.cases.0
    c.in_ok-section.ensures
