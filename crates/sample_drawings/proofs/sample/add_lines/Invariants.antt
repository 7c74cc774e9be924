use Rattle.std.proofs.Common.{◌≡◌, drop, length}
use Rattle.sample_drawings.proofs.Names.{HasRoom, with_segments}
use Rattle.sample_drawings.proofs.sample.add_lines.Given as goal

-- there is room for the lines that are left, and with them the drawing has all
abbrev pub invariant-loop-line : goal.invariant-loop-line
invariant-loop-line l = record {
  room : HasRoom l.maker (length (drop l.line-index l.lines));
  all : with_segments l.maker (drop l.line-index l.lines) ≡ with_segments l.fn.maker l.lines;
}
