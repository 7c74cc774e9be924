use Rattle.std.proofs.Common.{◌≡◌, take}
use Rattle.line_sections.proofs.Names.{count_by, is_same_point}
use Rattle.line_sections.proofs.whole_lines.places_of.Given as goal

-- the places so far
abbrev pub invariant-loop-p : goal.invariant-loop-p
invariant-loop-p l = l.places ≡ count_by (is_same_point l.at) (take l.p-index l.points)
