use Rattle.std.proofs.Common.{length}
use Rattle.line_sections.proofs.Names.{get, flat_map, is_same_spot, AreMarked, spots_of}
use Rattle.line_sections.proofs.listed_points.listed_points.Given as goal

-- the spots of the lines that are left are still to be marked
abbrev pub invariant-loop-rest : goal.invariant-loop-rest
invariant-loop-rest l = AreMarked (flat_map spots_of l.lines) (flat_map spots_of l.rest) (get is_same_spot l.marks)

abbrev pub decreases-loop-rest : goal.decreases-loop-rest
decreases-loop-rest l = length l.rest
