use Rattle.std.proofs.Common.{◌≡◌, ◌-◌, ◌^◌, List, min, subst}
use Rattle.std.proofs.lemmas.List.{take_all}
use Rattle.blossom_match.specs.declared.matching.Pair.{Pair}
use Rattle.blossom_match.specs.Matchings.{pairs_cost}
use Rattle.matching_checks.proofs.EndLemmas.{ends_below}
use Rattle.matching_checks.proofs.properties.cost.Goals as goal

pub returns : goal.returns
returns c each =
    subst (λ (ps : List Pair). c.loop-p.sum ≡ min (pairs_cost c.args.t.now ps) (2 ^ 64 - 1))
    (take_all c.loop-p.p-index c.args.m.now.pairs (rw c.as_slice-p-items.ensures at c.loop-p-test.false))
    (c.loop-p.invariant (ends_below c.args.t.now.places c.args.m.now.pairs each))
