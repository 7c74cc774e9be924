use Rattle.std.proofs.Common.{◌≡◌, ◌+◌, ◌++◌, drop}
use Rattle.drawing_picture.specs.Labels.{line_labels}
use Rattle.drawing_picture.proofs.labels.put_line_labels.Given as goal

-- the labels so far, and those of the lines that are left
abbrev pub invariant-loop-line : goal.invariant-loop-line
invariant-loop-line l = record {
  counted : l.number ≡ 1 + l.line-index;
  labels : l.labels ++ line_labels l.number (drop l.line-index l.lines) ≡ l.fn.labels ++ line_labels 1 l.lines;
}
