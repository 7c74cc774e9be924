use Rattle.std.proofs.Common.{◌≡◌, ◌+◌, drop}
use Rattle.piece_stitches.specs.PieceStitches.{total_travel}
use Rattle.piece_stitches.proofs.counting.travel_of.Given as goal

-- the total so far, with that of the pieces that are left, is the total of all
abbrev pub invariant-loop-stitches : goal.invariant-loop-stitches
invariant-loop-stitches l = l.travel + total_travel (drop l.stitches-index l.all) ≡ total_travel l.all
