use Rattle.std.proofs.Common.{List, ◌≤◌, subst, sym, ap, arith}
use Rattle.free_ends.proofs.Names.{Pair, eq_self, nat_tests, one_if, pair_ends_at, place_below}
use Rattle.free_ends.proofs.MateLemmas.{ends_cons}
use Rattle.free_ends.proofs.PairLemmas.{pairs_cost-cons}
use Rattle.free_ends.proofs.end_choice.cost_of.Goals as goal

pub loop-pair-init : goal.loop-pair-init
loop-pair-init c = record { there = place_below c.args.table.now.places c.args.pairs.now c.requires.there; whole = omega arith }

pub get-cost-requires-clause-a_in : goal.get-cost-requires-clause-a_in
get-cost-requires-clause-a_in c =
    c.loop-pair.invariant.there c.in-Some.pair.now.a (subst (λ (qs : List Pair). 1 ≤ pair_ends_at qs c.in-Some.pair.now.a)
    (sym c.in-Some.ensures.cases.0) (omega (
      arith,
      ends_cons c.in-Some.pair.now.a c.in-Some.pair.now c.in-Some.after.now,
      ap one_if (eq_self c.in-Some.pair.now.a),
    )))

pub get-cost-requires-clause-b_in : goal.get-cost-requires-clause-b_in
get-cost-requires-clause-b_in c =
    c.loop-pair.invariant.there c.in-Some.pair.now.b (subst (λ (qs : List Pair). 1 ≤ pair_ends_at qs c.in-Some.pair.now.b)
    (sym c.in-Some.ensures.cases.0) (omega (
      arith,
      ends_cons c.in-Some.pair.now.b c.in-Some.pair.now c.in-Some.after.now,
      ap one_if (eq_self c.in-Some.pair.now.b),
    )))

pub loop-pair-preserved : goal.loop-pair-preserved
loop-pair-preserved c = record {
  there = λ x some. c.loop-pair.invariant.there x (subst (λ (qs : List Pair). 1 ≤ pair_ends_at qs x) (sym c.in-Some.ensures.cases.0)
      (omega (arith, ends_cons x c.in-Some.pair.now c.in-Some.after.now, some)));
  whole = grind (arith, nat_tests, ap, c.in-Some.ensures.cases.0, pairs_cost-cons, c.get-cost.ensures.value, c.loop-pair.invariant.whole);
}
