use Rattle.std.proofs.Common.{◌≡◌, ◌++◌, length}
use Rattle.line_sections.proofs.Names.{get, is_same_spot, is_cut_by, sections_by, sections_continued, lines_through}
use Rattle.line_sections.proofs.cut_lines.put_sections.Given as goal

-- the sections so far, and those made of the current section and the points that are left
abbrev pub invariant-loop-rest : goal.invariant-loop-rest
invariant-loop-rest l =
    l.sections.items ++ lines_through l.block (sections_continued (is_cut_by (get is_same_spot l.marks) l.block) l.section l.rest)
    ≡ l.fn.sections.items ++ sections_by (get is_same_spot l.marks) l.line

abbrev pub decreases-loop-rest : goal.decreases-loop-rest
decreases-loop-rest l = length l.rest
