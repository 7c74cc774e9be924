use Rattle.std.proofs.Common.{◌≡◌, ℕ, false, refl}
use Rattle.blossom_match.specs.Matchings.{moat_holds}
use Rattle.matching_checks.proofs.ItemLemmas.{all_held, all_whole}
use Rattle.matching_checks.proofs.moats.lies_beside.Goals as goal

pub returns : goal.returns
returns c =
    let out = λ (k : ℕ). moat_holds c.args.k.now k ≡ false in (
      λ done. all_held out c.args.m.now.members
          (all_whole out c.args.m.now.members c.loop-x.x-index (rw c.as_slice-x-items.ensures at c.loop-x-test.false) c.loop-x.invariant),
      λ apart. refl,
    )
