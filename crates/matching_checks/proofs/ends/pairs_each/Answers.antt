use Rattle.std.proofs.Common.{refl, arith}
use Rattle.std.proofs.lemmas.Bool.{false≢true}
use Rattle.matching_checks.proofs.EndLemmas.{ends_below, ends_each}
use Rattle.matching_checks.proofs.ends.pairs_each.Goals as goal

pub returns-then-not-are_below : goal.returns-then-not-are_below
returns-then-not-are_below c =
    (λ done. absurd (false≢true done), λ each. c.if-not-are_below.ensures.1 (ends_below c.args.n c.args.pairs.now each))

pub returns : goal.returns
returns c = (
  λ done x. ends_each c.args.n x c.args.pairs.now (c.if-not-are_below.ensures.0 refl)
      (λ z low. c.loop-x.invariant z (omega (arith, c.loop-x-test.false))),
  λ each. refl,
)
