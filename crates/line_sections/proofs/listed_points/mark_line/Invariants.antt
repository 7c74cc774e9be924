use Rattle.std.proofs.Common.{List, ◌++◌, length, map}
use Rattle.line_sections.proofs.Names.{get, Spot, is_same_spot, AreMarked, spot_at, spots_of}
use Rattle.line_sections.proofs.listed_points.mark_line.Given as goal

-- the spots of the points that are left are still to be marked
abbrev pub invariant-loop-rest : goal.invariant-loop-rest
invariant-loop-rest l = (all left : List Spot) → AreMarked all (spots_of l.line ++ left) (get is_same_spot l.fn.marks)
    → AreMarked all (map (spot_at l.block) l.rest ++ left) (get is_same_spot l.marks)

abbrev pub decreases-loop-rest : goal.decreases-loop-rest
decreases-loop-rest l = length l.rest
