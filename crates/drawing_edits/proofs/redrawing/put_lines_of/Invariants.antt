use Rattle.std.proofs.Common.{◌≡◌, drop}
use Rattle.drawing_edits.proofs.Names.{with_lines_of}
use Rattle.drawing_edits.proofs.redrawing.put_lines_of.Given as goal

-- the lines so far are drawn: the result depends on the drawing with them and on the others
abbrev pub invariant-loop-line : goal.invariant-loop-line
invariant-loop-line l = with_lines_of l.block l.maker (drop l.line-index l.lines) ≡ with_lines_of l.block l.fn.maker l.lines
