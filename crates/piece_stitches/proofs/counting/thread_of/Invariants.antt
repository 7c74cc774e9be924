use Rattle.std.proofs.Common.{◌≡◌, ◌+◌, drop}
use Rattle.piece_stitches.specs.PieceStitches.{total_thread}
use Rattle.piece_stitches.proofs.counting.thread_of.Given as goal

-- the total so far, with that of the pieces that are left, is the total of all
abbrev pub invariant-loop-stitches : goal.invariant-loop-stitches
invariant-loop-stitches l = l.thread + total_thread (drop l.stitches-index l.all) ≡ total_thread l.all
