use Rattle.std.proofs.Common.{◌≡◌, length}
use Rattle.drawing_edits.proofs.Names.{lines_listing}
use Rattle.drawing_edits.proofs.placed_ends.first_block_listing.Given as goal

-- The lines so far don't list the point.
abbrev pub invariant-loop-rest : goal.invariant-loop-rest
invariant-loop-rest l = lines_listing l.at l.rest ≡ lines_listing l.at l.lines

abbrev pub decreases-loop-rest : goal.decreases-loop-rest
decreases-loop-rest l = length l.rest
