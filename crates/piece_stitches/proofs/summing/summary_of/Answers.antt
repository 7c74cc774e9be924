use Rattle.std.proofs.Common.{◌∙◌}
use native.Mathlib.Omega.{arith}
use Rattle.std.proofs.lemmas.List.{nil_from_length}
use Rattle.std.proofs.lemmas.List.Elements.{All-tail}
use Rattle.piece_stitches.proofs.PieceLemmas.{IsLineOf}
use Rattle.piece_stitches.proofs.SummaryLemmas.{grown_from_none, with_line_first}
use Rattle.piece_stitches.specs.StitchSummaries.{lengths_of_lines}
use Rattle.piece_stitches.proofs.summing.summary_of.Goals as goal

pub loop-line-preserved : goal.loop-line-preserved
loop-line-preserved c = record {
  there = All-tail (IsLineOf c.args.d.now) c.in-Some.line.now c.in-Some.after.now
      (rw c.in-Some.ensures.cases.0 at c.loop-line.invariant.there);
  sound = c.in_ok-summary.ensures.sound;
  few = omega (arith, c.in_ok-summary.ensures.few, rw c.in-Some.ensures.cases.0 at c.loop-line.invariant.few);
  summed = rw c.in_ok-summary.ensures.value (with_line_first c.args.d.now c.loop-line.summary c.in-Some.line.now c.in-Some.after.now)
      ∙ rw c.in-Some.ensures.cases.0 at c.loop-line.invariant.summed;
}

pub returns-clause-value : goal.returns-clause-value
returns-clause-value c = rw (nil_from_length _ c.in_default.ensures.cases) at c.loop-line.invariant.summed
    ∙ grown_from_none (lengths_of_lines c.args.d.now c.args.lines.now)
