use Rattle.std.proofs.Common.{arith, ap, ℕ, ◌*◌, List}
use Rattle.odd_sets.proofs.Names.{count}
use Rattle.odd_sets.proofs.RaisedLemmas.{outers_at, more_by}
use Rattle.odd_sets.proofs.heights.raise_outers.Goals as goal

pub raise-requires-clause-within : goal.raise-requires-clause-within
raise-requires-clause-within c = λ x here.
    c.loop-b.invariant.within x (omega (
      arith,
      outers_at x c.args.sets.now c.args.tree.now c.loop-b.b-index c.loop-b-test.true,
      ap (λ (xs : List ℕ). count x xs) c.members.ensures,
    ))

pub raise-requires-clause-fits : goal.raise-requires-clause-fits
raise-requires-clause-fits c = λ x.
    omega (
      arith,
      more_by c.args.by _ _ _ (outers_at x c.args.sets.now c.args.tree.now c.loop-b.b-index c.loop-b-test.true),
      ap (λ (xs : List ℕ). c.args.by * count x xs) c.members.ensures,
    )

pub loop-b-preserved : goal.loop-b-preserved
loop-b-preserved c = record {
  sum = λ x. omega (
    arith,
    more_by c.args.by _ _ _ (outers_at x c.args.sets.now c.args.tree.now c.loop-b.b-index c.loop-b-test.true),
    ap (λ (xs : List ℕ). c.args.by * count x xs) c.members.ensures,
  );
  within = λ x here.
      let low = c.loop-b.invariant.within x (omega
      (arith, here, outers_at x c.args.sets.now c.args.tree.now c.loop-b.b-index c.loop-b-test.true)) in
      omega (arith, low, c.raise.auto.heights);
}
