use Rattle.std.proofs.Common.{◌≡◌, ℕ, true}
use Rattle.blossom_match.specs.Matchings.{moat_holds}
use Rattle.matching_checks.proofs.ItemLemmas.{all_held, all_whole}
use Rattle.matching_checks.proofs.moats.lies_in.Goals as goal

pub returns-clause-yes : goal.returns-clause-yes
returns-clause-yes c done =
    let inside = λ (k : ℕ). moat_holds c.args.k.now k ≡ true in
    all_held inside c.args.m.now.members
    (all_whole inside c.args.m.now.members c.loop-x.x-index (rw c.as_slice-x-items.ensures at c.loop-x-test.false) c.loop-x.invariant)
