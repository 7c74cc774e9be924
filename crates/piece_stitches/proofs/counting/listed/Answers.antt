use Rattle.std.proofs.Common.{◌∙◌, refl}
use Rattle.std.proofs.lemmas.List.Elements.{All-tail}
use Rattle.piece_stitches.specs.PieceStitches.{HasLinesOf}
use native.Mathlib.Omega.{arith}
use Rattle.piece_stitches.proofs.PieceLemmas.{with_piece_next}
use Rattle.piece_stitches.proofs.counting.listed.Goals as goal

pub loop-piece-init : goal.loop-piece-init
loop-piece-init c = record {
  lines = All-tail (HasLinesOf c.args.d.now) c.in-Some.first.now c.in-Some.more.now
      (rw c.in-Some.ensures.cases.0 at c.requires.lines);
  small = c.in_ok-put_stitches.ensures.small;
  few = omega (arith, rw c.in-Some.ensures.cases.0 at c.requires.few, rw c.new-all.ensures at c.in_ok-put_stitches.ensures.longer);
  listed = rw (c.in-Some.ensures.cases.0, c.in_ok-put_stitches.ensures.value, c.new-all.ensures) refl;
}

pub loop-piece-preserved : goal.loop-piece-preserved
loop-piece-preserved c = record {
  lines = All-tail (HasLinesOf c.args.d.now) c.in-Some-split_first.piece.now c.in-Some-split_first.more.now
      (rw c.in-Some-split_first.ensures.cases.0 at c.loop-piece.invariant.lines);
  small = c.in_ok-put_stitches-2.ensures.small;
  few = omega (arith, rw c.in-Some-split_first.ensures.cases.0 at c.loop-piece.invariant.few, c.in_ok-put_stitches-2.ensures.longer);
  listed = rw (c.in_ok-put_stitches-2.ensures.value, c.travel.ensures.value)
      (with_piece_next c.args.d.now c.loop-piece.all c.loop-piece.before.now c.in-Some-split_first.piece.now c.in-Some-split_first.more.now)
      ∙ rw c.in-Some-split_first.ensures.cases.0 at c.loop-piece.invariant.listed;
}
