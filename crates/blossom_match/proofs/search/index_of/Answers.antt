use Rattle.std.proofs.Common.{rules, ℕ, List, ◌-◌, ◌≤◌, ◌≡◌, length, take, refl, arith}
use Rattle.std.proofs.lemmas.Iterator.{IsFirst-from_position, YieldsList-from_slice}
use Rattle.odd_sets.proofs.CallerLemmas.{IsFirst, first_or_last}
use Rattle.blossom_match.proofs.Names.{nat_tests, count, one_if_equal}
use Rattle.blossom_match.proofs.search.index_of.Goals as goal

pub returns-clause-there : goal.returns-clause-there
returns-clause-there c =
    let place = c.args.place in
    let xs = c.args.places.now in
    let same : ℕ → ℕ = λ x. one_if_equal place x in
    let first : IsFirst same (take (length xs - 1) xs) c.position.result =
    IsFirst-from_position _ _ c.position.result (λ x. 1 ≤ same x) (λ x. same x ≡ 0) c.position.ensures.ran
    (YieldsList-from_slice (take (length xs - 1) xs) c.iter.ensures.rest) (λ x q k. search (rules, nat_tests))
    (λ x q k. search (rules, nat_tests)) in
    let there = first_or_last same (λ (ys : List ℕ). count place ys) refl (λ y ys. refl) xs (length xs - 1) c.unwrap_or.result
    c.position.result 0 refl first c.unwrap_or.ensures c.requires in
    grind (arith, nat_tests, there.1)
