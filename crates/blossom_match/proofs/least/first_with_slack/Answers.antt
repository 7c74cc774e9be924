use Rattle.std.proofs.Common.{◌≡◌, ℕ, List, arith, get_or}
use Rattle.blossom_match.proofs.Names.{nat_tests, TableValue, entry, count_at, entry-comm}
use Rattle.blossom_match.proofs.OuterSlackLemmas.{left_more}
use Rattle.blossom_match.proofs.least.first_with_slack.Goals as goal

same : (t : TableValue) (to : ℕ) (xs : List ℕ) (i : ℕ) → entry t to (get_or xs i 0) ≡ entry t (get_or xs i 0) to
same t to xs i = entry-comm t to (get_or xs i 0)

pub get-requires-clause-b_in : goal.get-requires-clause-b_in
get-requires-clause-b_in c =
    c.requires.within (get_or c.args.xs.now c.loop-a.a-index 0) (count_at c.args.xs.now c.loop-a.a-index c.loop-a-test.true)

pub bounds-heights-a : goal.bounds-heights-a
bounds-heights-a c = omega (
  arith,
  c.requires.cells,
  c.requires.within (get_or c.args.xs.now c.loop-a.a-index 0) (count_at c.args.xs.now c.loop-a.a-index c.loop-a-test.true),
)

pub returns-then-saturating_sub-left : goal.returns-then-saturating_sub-left
returns-then-saturating_sub-left c = record {
  here = count_at c.args.xs.now c.loop-a.a-index c.loop-a-test.true;
  exact = grind (arith, nat_tests, c.if-saturating_sub-left.true, c.saturating_sub.ensures, c.get.ensures.value, same);
}

pub loop-a-preserved : goal.loop-a-preserved
loop-a-preserved c = λ l.
    left_more c.args.t.now c.args.heights.now c.args.xs.now c.loop-a.a-index c.args.to c.args.left c.loop-a-test.true
    (λ e. c.if-saturating_sub-left.false (grind (arith, nat_tests, e, c.saturating_sub.ensures, c.get.ensures.value, same)))
    (c.loop-a.invariant l)
