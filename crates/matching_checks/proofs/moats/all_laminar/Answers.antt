use Rattle.std.proofs.Common.{refl}
use Rattle.std.proofs.lemmas.Bool.{false≢true}
use Rattle.blossom_match.specs.Matchings.{AreLaminar}
use Rattle.matching_checks.proofs.ItemLemmas.{pairs_before, pairs_more, pairs_whole}
use Rattle.matching_checks.proofs.moats.all_laminar.Goals as goal

pub returns-then-not-is_laminar_to : goal.returns-then-not-is_laminar_to
returns-then-not-is_laminar_to c = (
  λ done. absurd (false≢true done),
  λ pairs. c.if-not-is_laminar_to.ensures.1
      (pairs_before AreLaminar c.args.moats.now c.loop-i.i _ c.index-moats-i.result c.loop-i-test.true c.index-moats-i.is pairs),
)

pub loop-i-preserved : goal.loop-i-preserved
loop-i-preserved c =
    pairs_more AreLaminar c.args.moats.now c.loop-i.i _ c.index-moats-i.result c.loop-i-test.true c.index-moats-i.is c.loop-i.invariant
    (c.if-not-is_laminar_to.ensures.0 refl)

pub returns : goal.returns
returns c = (λ done. pairs_whole AreLaminar c.args.moats.now c.loop-i.i c.loop-i-test.false c.loop-i.invariant, λ pairs. refl)
