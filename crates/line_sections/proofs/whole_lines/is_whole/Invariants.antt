use Rattle.std.proofs.Common.{◌≡◌, not, length}
use Rattle.line_sections.proofs.Names.{list_any, but_last, is_shared_point, is_whole_line}
use Rattle.line_sections.proofs.whole_lines.is_whole.Given as goal

-- the points so far are listed nowhere else, so all depends on those that are left
abbrev pub invariant-loop-at : goal.invariant-loop-at
invariant-loop-at l = is_whole_line l.lines l.line ≡ not (list_any (is_shared_point l.lines l.block) (but_last l.rest))

abbrev pub decreases-loop-at : goal.decreases-loop-at
decreases-loop-at l = length l.rest
