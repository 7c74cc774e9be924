use Rattle.std.proofs.Common.{◌≡◌, ◌≤◌, ◌+◌, drop}
use Rattle.design_review.specs.Ties.{beginning_after, count_tie_stitches}
use Rattle.design_review.proofs.ties.count_tie_stitches.Given as goal

-- the stitches so far, and those of the needles that are left
abbrev pub invariant-loop-needle : goal.invariant-loop-needle
invariant-loop-needle l = record {
  few : l.stitches ≤ l.needle-index;
  counted : l.stitches + count_tie_stitches l.before (beginning_after l.reach l.first (drop l.needle-index l.rest))
      ≡ count_tie_stitches l.first (beginning_after l.reach l.first l.rest);
}
