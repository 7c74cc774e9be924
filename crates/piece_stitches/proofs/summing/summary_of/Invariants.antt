use Rattle.std.proofs.Common.{◌≡◌, ◌+◌, ◌*◌, ◌<◌, ◌≤◌, All, length}
use Rattle.piece_stitches.specs.GrowingSummaries.{IsSummary, no_stitches, with_stitches}
use Rattle.piece_stitches.specs.StitchSummaries.{lengths_of_lines}
use Rattle.piece_stitches.proofs.summing.summary_of.Given as goal

-- with the lines that are left, the summary becomes that of all lines
abbrev pub invariant-loop-line : goal.invariant-loop-line
invariant-loop-line l = record {
  there : All (λ line. line < length l.d.lines) l.rest;
  sound : IsSummary l.summary;
  few : l.summary.stitches + 200001 * length l.rest ≤ 200001 * length l.lines;
  summed : with_stitches l.summary (lengths_of_lines l.d l.rest) ≡ with_stitches no_stitches (lengths_of_lines l.d l.lines);
}

abbrev pub decreases-loop-line : goal.decreases-loop-line
decreases-loop-line l = length l.rest
