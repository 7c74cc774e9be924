use Rattle.std.proofs.Common.{◌≢◌, ◌∙◌, refl, sym}
use Rattle.std.proofs.lemmas.Bool.{false≢true}
use Rattle.matching_checks.proofs.ItemLemmas.{all_apart, none_same, pairs_before, pairs_more, pairs_whole}
use Rattle.matching_checks.proofs.moats.all_differ.Goals as goal

pub returns-then-contains : goal.returns-then-contains
returns-then-contains c = (
  λ done. absurd (false≢true done),
  λ differ. sym (none_same _ _ (pairs_before (λ x y. x ≢ y) c.args.members.now c.loop-i.i 0 _ c.loop-i-test.true refl differ))
      ∙ sym c.contains.ensures.value ∙ c.if-contains.true,
)

pub loop-i-preserved : goal.loop-i-preserved
loop-i-preserved c =
    pairs_more (λ x y. x ≢ y) c.args.members.now c.loop-i.i 0 _ c.loop-i-test.true refl c.loop-i.invariant
    (all_apart _ _ (sym c.contains.ensures.value ∙ c.if-contains.false))

pub returns : goal.returns
returns c = (λ done. pairs_whole (λ x y. x ≢ y) c.args.members.now c.loop-i.i c.loop-i-test.false c.loop-i.invariant, λ differ. refl)
