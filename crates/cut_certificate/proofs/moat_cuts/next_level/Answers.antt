use Rattle.std.proofs.Common.{arith, inl, inr}
use Rattle.cut_certificate.proofs.MoatCutLemmas.{gap_after, level_after, same_level}
use Rattle.cut_certificate.proofs.moat_cuts.next_level.Goals as goal
use Rattle.cut_certificate.proofs.moat_cuts.next_level.Goals.{then-level-from, else-level-from}

pub loop-level-preserved : goal.loop-level-preserved
loop-level-preserved c = elim c.if-level-from.branch [
  | then-level-from w ↦ record {
    more = omega (arith, c.min-next.ensures, w.min-is, w.if-level-from.true, c.loop-level.invariant.more);
    most = omega (arith, c.min-next.ensures, c.loop-level.invariant.most);
    level = level_after c.args.levels.now c.loop-level.level-index c.loop-level.next c.args.width c.if-level-from.min c.min-next.result
        w.min-is c.min-next.ensures c.loop-level.invariant.level;
    gap = gap_after c.args.levels.now c.args.from c.loop-level.level-index c.loop-level.next c.min-next.result
        (omega (arith, c.min-next.ensures)) (inr (omega (arith, c.min-next.ensures, w.min-is))) c.loop-level.invariant.gap;
  }
  | else-level-from w ↦ record {
    more = omega (arith, c.min-next.ensures, w.min-is, c.loop-level.invariant.more, c.loop-level.invariant.most);
    most = omega (arith, c.min-next.ensures, c.loop-level.invariant.most);
    level = same_level c.args.levels.now c.loop-level.level-index c.loop-level.next c.args.width c.min-next.result
        (omega (arith, c.min-next.ensures, w.min-is, c.loop-level.invariant.most)) c.loop-level.invariant.level;
    gap = gap_after c.args.levels.now c.args.from c.loop-level.level-index c.loop-level.next c.min-next.result
        (omega (arith, c.min-next.ensures)) (inl w.if-level-from.false) c.loop-level.invariant.gap;
  }
]
