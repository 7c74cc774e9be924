use Rattle.std.proofs.Common.{◌≡◌, ℕ, ◌-◌, ◌<◌, ◌⊎◌, List, arith, inl, inr, refl}
use Rattle.cut_certificate.specs.MoatCuts.{IsLevelOf}
use Rattle.cut_certificate.proofs.MoatCutLemmas.{next_cuts}
use Rattle.cut_certificate.proofs.moat_cuts.add_cuts.Goals as goal

reached : (from width : ℕ) (levels : List ℕ) → (from ≡ 0) ⊎ ((from ≡ width) ⊎ IsLevelOf levels from) → from < width
    → (from ≡ 0) ⊎ IsLevelOf levels from
reached from width levels (inl none) lt = inl none
reached from width levels (inr (inl all)) lt = absurd (omega (arith, all, lt))
reached from width levels (inr (inr level)) lt = inr level

pub loop-from-preserved : goal.loop-from-preserved
loop-from-preserved c = record {
  most = c.next_level-next.ensures.most;
  at = inr c.next_level-next.ensures.level;
  made = next_cuts c.args.levels.now c.loop-from.from c.next_level-next.result c.args.cuts.now c.loop-from.cuts c.push.new.self
      (record { weight = c.next_level-next.result - c.loop-from.from; members = c.in_ok-members.members })
      c.loop-from.invariant.made (reached _ _ _ c.loop-from.invariant.at c.loop-from-test.true)
      c.next_level-next.ensures.more c.next_level-next.ensures.gap c.in_ok-members.ensures refl c.in_ok-push.ensures.ok;
}
