use Rattle.std.proofs.Common.{◌≡◌, ◌+◌, ◌≤◌, length}
use Rattle.piece_stitches.specs.GrowingSummaries.{IsSummary, with_stitches}
use Rattle.piece_stitches.specs.StitchSummaries.{lengths_after}
use Rattle.piece_stitches.proofs.summing.with_needles_after.Given as goal

-- with the needle points that are left, the summary becomes that of all
abbrev pub invariant-loop-rest : goal.invariant-loop-rest
invariant-loop-rest l = record {
  sound : IsSummary l.sum;
  few : l.sum.stitches + length l.rest ≤ l.fn.summary.stitches + length l.needles;
  summed : with_stitches l.sum (lengths_after l.before l.rest)
      ≡ with_stitches l.fn.summary (lengths_after l.fn.first l.needles);
}

abbrev pub decreases-loop-rest : goal.decreases-loop-rest
decreases-loop-rest l = length l.rest
