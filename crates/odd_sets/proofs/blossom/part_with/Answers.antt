use Rattle.std.proofs.Common.{rules, ◌≤◌, ◌≡◌, ◌-◌, ℕ, List, length, take, get_or, refl}
use Rattle.std.proofs.lemmas.Iterator.{IsFirst-from_position, YieldsList-from_slice}
use Rattle.odd_sets.proofs.Names.{count, members_at, members_in, part_in, parts_in, BlossomPart}
use Rattle.odd_sets.proofs.BlossomLemmas.{holds_here}
use Rattle.odd_sets.proofs.FirstLemmas.{IsFirst, first_or_last}
use Rattle.odd_sets.proofs.HandleLemmas.{no_part}
use Rattle.odd_sets.proofs.ListLemmas.{mapped_item, mapped_low}
use Rattle.odd_sets.proofs.SumLemmas.{count-append}
use Rattle.odd_sets.proofs.blossom.part_with.Goals as goal

pub returns-clause-there : goal.returns-clause-there
returns-clause-there c =
    let place = c.args.place in
    let sets = c.args.sets.now in
    let ps = c.args.parts.now in
    let at = c.unwrap_or.result in
    let held : BlossomPart → ℕ = λ p. count place (members_at sets p.handle.key) in
    let first : IsFirst held (take (length ps - 1) ps) c.position.result =
    IsFirst-from_position _ _ c.position.result (λ p. 1 ≤ held p) (λ p. held p ≡ 0) c.position.ensures.ran
    (YieldsList-from_slice (take (length ps - 1) ps) c.iter.ensures.rest) (λ x q k. search rules) (λ x q k. search rules) in
    let there = first_or_last held (λ (qs : List BlossomPart). count place (members_in (parts_in sets qs))) refl
    (λ p qs. count-append place (members_at sets p.handle.key) (members_in (parts_in sets qs))) ps (length ps - 1) at c.position.result
    no_part
    refl first c.unwrap_or.ensures c.requires in
    holds_here place (parts_in sets ps) at (part_in sets (get_or ps at no_part)) (mapped_low (part_in sets) ps at there.0)
    (mapped_item (part_in sets) ps at no_part) there.1
