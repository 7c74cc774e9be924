use Rattle.std.proofs.Common.{rules, ◌≤◌, ◌≡◌, ◌-◌, ◌+◌, ℕ, List, length, take, get_or, refl, arith}
use Rattle.std.proofs.lemmas.Iterator.{IsFirst-from_position, YieldsList-from_slice}
use Rattle.odd_sets.proofs.Names.{count, members_at, match_in, match_members, matches_in, Match}
use Rattle.odd_sets.proofs.FirstLemmas.{IsFirst, first_or_last}
use Rattle.odd_sets.proofs.HandleLemmas.{no_match}
use Rattle.odd_sets.proofs.ListLemmas.{mapped_item, mapped_low}
use Rattle.odd_sets.proofs.MatchLemmas.{match_holds}
use Rattle.odd_sets.proofs.SumLemmas.{count-append}
use Rattle.odd_sets.proofs.matches.match_with.Goals as goal

pub returns-clause-there : goal.returns-clause-there
returns-clause-there c =
    let place = c.args.place in
    let sets = c.args.sets.now in
    let cs = c.args.matches.now in
    let at = c.unwrap_or.result in
    let held : Match → ℕ = λ m. count place (members_at sets m.first.key) + count place (members_at sets m.second.key) in
    let first : IsFirst held (take (length cs - 1) cs) c.position.result =
    IsFirst-from_position _ _ c.position.result (λ m. 1 ≤ held m) (λ m. held m ≡ 0) c.position.ensures.ran
    (YieldsList-from_slice (take (length cs - 1) cs) c.iter.ensures.rest) (λ x q k. search rules) (λ x q k. search rules) in
    let there = first_or_last held (λ (ms : List Match). count place (match_members (matches_in sets ms))) refl
    (λ m ms. omega (arith, count-append)) cs (length cs - 1) at c.position.result no_match refl first c.unwrap_or.ensures c.requires in
    match_holds place (matches_in sets cs) at (match_in sets (get_or cs at no_match)) (mapped_low (match_in sets) cs at there.0)
    (mapped_item (match_in sets) cs at no_match) there.1
