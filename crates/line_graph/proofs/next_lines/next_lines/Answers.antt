use Rattle.std.proofs.Common.{◌≡◌, ◌+◌, ◌-◌, ◌<◌, ℕ, length, arith, subst}
use Rattle.line_graph.proofs.Names.{AreNextFrom}
use Rattle.line_graph.proofs.NextLineLemmas.{one_seen}
use Rattle.line_graph.proofs.next_lines.next_lines.Goals as goal

pub loop-at-preserved : goal.loop-at-preserved
loop-at-preserved c =
    let line : ℕ = c.loop-at.at - 1 in
    let after : c.loop-at.at ≡ line + 1 = omega (arith, c.loop-at-test.true) in
    let below : line < length c.args.labels.now = omega (arith, after, c.loop-at.invariant.within) in
    record {
      within = omega (arith, c.loop-at.invariant.within);
      seen = one_seen c.args.labels.now c.loop-at.next.items _ line below c.requires.low c.put_first.ensures
          (subst (λ (at : ℕ). AreNextFrom c.args.labels.now at c.loop-at.next.items) after c.loop-at.invariant.seen);
    }
