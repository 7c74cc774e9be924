use Rattle.std.proofs.Common.{rules, ◌≤◌, ◌+◌, ℕ, get_or}
use Rattle.std.proofs.lemmas.Iterator.{IsFirst-from_position, YieldsList-from_slice}
use Rattle.std.specs.Bool.{⊤}
use Rattle.odd_sets.proofs.Names.{count, members_at, match_in, matches_in, Match}
use Rattle.odd_sets.proofs.FirstLemmas.{if_found}
use Rattle.odd_sets.proofs.HandleLemmas.{no_match}
use Rattle.odd_sets.proofs.ListLemmas.{mapped_item, mapped_low}
use Rattle.odd_sets.proofs.MatchLemmas.{match_holds}
use Rattle.odd_sets.proofs.matches.match_from.Goals as goal

pub returns : goal.returns
returns c =
    let place = c.args.place in
    let sets = c.args.sets.now in
    let cs = c.args.matches.now in
    let held : Match → ℕ = λ m. count place (members_at sets m.first.key) + count place (members_at sets m.second.key) in
    if_found held cs c.position.result no_match _
    (λ i low here. match_holds place (matches_in sets cs) i (match_in sets (get_or cs i no_match)) (mapped_low (match_in sets) cs i low)
    (mapped_item (match_in sets) cs i no_match) here)
    (IsFirst-from_position _ _ c.position.result (λ m. 1 ≤ held m) (λ m. ⊤) c.position.ensures.ran
    (YieldsList-from_slice cs c.iter.ensures.rest) (λ x q k. search rules) (λ x q k. search rules))
