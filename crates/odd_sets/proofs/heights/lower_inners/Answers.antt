use Rattle.std.proofs.Common.{arith, ap, ℕ, ◌*◌, List}
use Rattle.odd_sets.proofs.Names.{count}
use Rattle.odd_sets.proofs.RaisedLemmas.{inners_at, more_by}
use Rattle.odd_sets.proofs.heights.lower_inners.Goals as goal

pub lower-requires-clause-within : goal.lower-requires-clause-within
lower-requires-clause-within c = λ x here.
    c.loop-b.invariant.within x (omega (
      arith,
      inners_at x c.args.sets.now c.args.tree.now c.loop-b.b-index c.loop-b-test.true,
      ap (λ (xs : List ℕ). count x xs) c.members.ensures,
    ))

pub lower-requires-clause-fits : goal.lower-requires-clause-fits
lower-requires-clause-fits c = λ x.
    omega (
      arith,
      more_by c.args.by _ _ _ (inners_at x c.args.sets.now c.args.tree.now c.loop-b.b-index c.loop-b-test.true),
      c.requires.fits x,
      ap (λ (xs : List ℕ). c.args.by * count x xs) c.members.ensures,
    )

pub loop-b-preserved : goal.loop-b-preserved
loop-b-preserved c = record {
  sum = λ x. omega (
    arith,
    more_by c.args.by _ _ _ (inners_at x c.args.sets.now c.args.tree.now c.loop-b.b-index c.loop-b-test.true),
    c.lower.ensures x,
    ap (λ (xs : List ℕ). c.args.by * count x xs) c.members.ensures,
  );
  within = λ x here.
      let low = c.loop-b.invariant.within x (omega
      (arith, here, inners_at x c.args.sets.now c.args.tree.now c.loop-b.b-index c.loop-b-test.true)) in
      omega (arith, low, c.lower.auto.heights);
}
