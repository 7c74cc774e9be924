use Rattle.std.proofs.Common.{sym, arith}
use Rattle.line_graph.proofs.KeptSections.{all_kept}
use Rattle.line_graph.proofs.joined_drawing.join.Goals as goal

pub with_lines-requires : goal.with_lines-requires
with_lines-requires c =
    all_kept c.sections_keep_segments.ensures.segments c.sections_keep_segments.ensures.each c.whole_lines_stay.ensures
    c.args.d.now _ _ _ c.keeps_limits.ensures.limits c.keeps_limits.ensures.ends c.lines.ensures c.in_ok-sections.ensures.value
    c.deref.ensures.value
    (omega (arith, c.len.ensures, c.if-len-gt-MAX_LINES.false)) (sym c.if-have_many_points.ensures)
