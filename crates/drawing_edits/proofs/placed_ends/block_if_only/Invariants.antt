use Rattle.std.proofs.Common.{◌≡◌, ◌==◌, length}
use Rattle.drawing_edits.proofs.Names.{lines_listing, list_all}
use Rattle.drawing_edits.proofs.placed_ends.block_if_only.Given as goal

-- The lines so far that list the point are in the block.
abbrev pub invariant-loop-rest : goal.invariant-loop-rest
invariant-loop-rest l = list_all (λ other. other.block == l.block) (lines_listing l.at l.rest)
    ≡ list_all (λ other. other.block == l.block) (lines_listing l.at l.lines)

abbrev pub decreases-loop-rest : goal.decreases-loop-rest
decreases-loop-rest l = length l.rest
