use Rattle.line_graph.proofs.drawing.Drawing.copied.Goals as goal

pub with_lines-requires : goal.with_lines-requires
with_lines-requires c = rw (c.in_ok-lines.ensures, c.lines.ensures)
    (record { limits = c.keeps_limits.ensures.limits; ends = c.keeps_limits.ensures.ends })
