use Rattle.std.proofs.Common.{◌≡◌, ◌++◌, length}
use Rattle.line_sections.proofs.Names.{get, flat_map, is_same_spot, sections_by}
use Rattle.line_sections.proofs.cut_lines.marked_sections.Given as goal

-- the sections so far, and those of the lines that are left
abbrev pub invariant-loop-rest : goal.invariant-loop-rest
invariant-loop-rest l = l.sections.items ++ flat_map (sections_by (get is_same_spot l.marks)) l.rest
    ≡ flat_map (sections_by (get is_same_spot l.marks)) l.lines

abbrev pub decreases-loop-rest : goal.decreases-loop-rest
decreases-loop-rest l = length l.rest
