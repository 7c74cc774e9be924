use Rattle.std.proofs.Common.{◌≡◌, ◌||◌, drop}
use Rattle.spaced_lines.proofs.Names.{contains, is_junction, Spot, is_same_spot}
use Rattle.spaced_lines.proofs.junction_spots.junctions.Given as goal

-- a spot is found so far, or is an end of a section that is left, exactly where it is a junction
abbrev pub invariant-loop-section : goal.invariant-loop-section
invariant-loop-section l = (spot : Spot) → (contains is_same_spot l.junctions spot || is_junction (drop l.section-index l.sections) spot)
    ≡ is_junction l.sections spot
