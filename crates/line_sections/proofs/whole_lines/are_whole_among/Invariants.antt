use Rattle.std.proofs.Common.{◌≡◌, length}
use Rattle.line_sections.proofs.Names.{list_all, is_whole_line}
use Rattle.line_sections.proofs.whole_lines.are_whole_among.Given as goal

-- the lines so far are whole, and the result depends on those that are left
abbrev pub invariant-loop-rest : goal.invariant-loop-rest
invariant-loop-rest l = list_all (is_whole_line l.lines) l.some ≡ list_all (is_whole_line l.lines) l.rest

abbrev pub decreases-loop-rest : goal.decreases-loop-rest
decreases-loop-rest l = length l.rest
