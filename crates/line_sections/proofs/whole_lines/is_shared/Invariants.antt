use Rattle.std.proofs.Common.{◌≡◌, ◌≤◌, ◌+◌, length}
use Rattle.line_sections.proofs.Names.{count_by, is_same_point, listed_in}
use Rattle.line_sections.proofs.whole_lines.is_shared.Given as goal

-- the lines so far have some of the two places, and the others are counted in the lines that are left
abbrev pub invariant-loop-rest : goal.invariant-loop-rest
invariant-loop-rest l = record {
  counted : l.wanted + count_by (is_same_point l.at) (listed_in l.lines l.block)
      ≡ 2 + count_by (is_same_point l.at) (listed_in l.rest l.block);
  some : 1 ≤ l.wanted;
}

abbrev pub decreases-loop-rest : goal.decreases-loop-rest
decreases-loop-rest l = length l.rest
