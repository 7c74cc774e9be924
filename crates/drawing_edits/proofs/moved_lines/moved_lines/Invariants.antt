use Rattle.std.proofs.Common.{◌≡◌, take, map}
use Rattle.drawing_edits.proofs.Names.{motion_map, with_moved_line}
use Rattle.drawing_edits.proofs.moved_lines.moved_lines.Given as goal

-- the lines so far are moved
abbrev pub invariant-loop-line : goal.invariant-loop-line
invariant-loop-line l = l.moved ≡ map (with_moved_line (motion_map l.motion)) (take l.line-index l.lines)
