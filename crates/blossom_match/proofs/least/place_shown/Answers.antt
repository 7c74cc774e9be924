use Rattle.std.proofs.Common.{rules, arith, refl, ◌<◌, ◌-◌, ◌≡◌, ◌≢◌, length}
use Rattle.std.proofs.iter.runs.Sources.{ranges}
use Rattle.std.proofs.lemmas.Iterator.{YieldsList-from_range, first_from_find}
use Rattle.blossom_match.proofs.Names.{nat_tests, masked_slack}
use Rattle.blossom_match.proofs.MaskLemmas.{shown_or_last}
use Rattle.blossom_match.proofs.least.place_shown.Goals as goal

pub overflow_cast-result : goal.overflow_cast-result
overflow_cast-result c =
    let low : c.unwrap_or-place.result < length c.args.reach.now = search (rules, ranges) in
    omega (arith, low, c.requires.few)

pub returns-clause-exact : goal.returns-clause-exact
returns-clause-exact c =
    let slack = c.args.slack in
    let hs = c.args.heights.now in
    let reach = c.args.reach.now in
    let mask = c.args.mask.now in
    let start = c.block_shown.result in
    shown_or_last hs reach mask slack start (length reach - 1) c.unwrap_or-place.result c.find.result refl c.requires.there
    c.block_shown.ensures.none
    (first_from_find _ _ c.find.result (λ x. slack ≡ masked_slack hs reach mask x) (λ x. slack ≢ masked_slack hs reach mask x)
    c.find.ensures.ran (YieldsList-from_range start (length reach - 1) (length reach - 1 - start) refl refl)
    (λ x q k. search (rules, nat_tests)) (λ x q k. search (rules, nat_tests)))
    c.unwrap_or-place.ensures
