use Rattle.std.proofs.Common.{◌++◌, ◌≡◌, drop}
use Rattle.drawing_picture.proofs.Names.{line_paths}
use Rattle.drawing_picture.proofs.line_paths.put_line_paths.Given as goal

-- the paths so far, and those of the lines that are left, are all
abbrev pub invariant-loop-line : goal.invariant-loop-line
invariant-loop-line l = l.text ++ line_paths l.threads (drop l.line-index l.lines) ≡ l.fn.text ++ line_paths l.threads l.lines
