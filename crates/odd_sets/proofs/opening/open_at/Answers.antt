use Rattle.std.proofs.Common.{arith, ap, length, List, ◌++◌, ◌∷◌, ◌≡◌, ◌<◌, ◌∙◌, subst, sym}
use Rattle.odd_sets.proofs.Names.{nat_tests, length-map, into_iter_items, IsRotated, matches_in, members_at, slacks_at, part_in, parts_at, parts_in, set_in, Match, BlossomPart}
use Rattle.odd_sets.proofs.ListLemmas.{drop_here}
use Rattle.odd_sets.proofs.OpenLemmas.{made_blossom, opens_place, opens_blossom}
use Rattle.odd_sets.proofs.SlotLemmas.{is_made, set_made}
use Rattle.odd_sets.proofs.opening.open_at.Goals as goal

pub turned_to-rest-requires : goal.turned_to-rest-requires
turned_to-rest-requires c =
    let sets = c.args.sets.now in
    let s = c.args.s in
    let copied = c.in_ok-extend_from_slice.ensures.items
    ∙ ap (λ (ps : List BlossomPart). ps ++ c.parts.result.now) c.new-parts.ensures.items
    ∙ c.parts.ensures in
    let some : 0 < length (parts_in sets (parts_at sets s.key)) =
    grind (arith, nat_tests, c.len.ensures, c.if-len-eq0.false, length-map (parts_at sets s.key) (part_in sets)) in
    let made = made_blossom (members_at sets s.key) (parts_in sets (parts_at sets s.key)) some (is_made sets s.key c.requires.set) in
    grind (arith, nat_tests, c.requires.there)

pub returns-then-len-eq0 : goal.returns-then-len-eq0
returns-then-len-eq0 c =
    let sets = c.args.sets.now in
    let s = c.args.s in
    let copied = c.in_ok-extend_from_slice.ensures.items
    ∙ ap (λ (ps : List BlossomPart). ps ++ c.parts.result.now) c.new-parts.ensures.items
    ∙ c.parts.ensures in
    let none : length (parts_in sets (parts_at sets s.key)) ≡ 0 =
    grind (arith, nat_tests, c.len.ensures, c.if-len-eq0.true, length-map (parts_at sets s.key) (part_in sets)) in
    opens_place c.args.left s.key s.dual (set_in sets s) (members_at sets s.key) (slacks_at sets s.key)
    (parts_in sets (parts_at sets s.key))
    _ (set_made sets s c.requires.set) (is_made sets s.key c.requires.set) c.requires.there none
    (ap (λ (cs : List Match). matches_in sets cs) c.new.ensures.items)

pub returns : goal.returns
returns c =
    let sets = c.args.sets.now in
    let s = c.args.s in
    let copied = c.in_ok-extend_from_slice.ensures.items
    ∙ ap (λ (ps : List BlossomPart). ps ++ c.parts.result.now) c.new-parts.ensures.items
    ∙ c.parts.ensures in
    opens_blossom c.args.left s.key s.dual (set_in sets s) (members_at sets s.key) (slacks_at sets s.key)
    (parts_in sets (parts_at sets s.key)) (parts_in sets c.turned_to-rest.result.items) (part_in sets c.remove.result)
    (parts_in sets (into_iter_items c.into_iter.result)) _
    (set_made sets s c.requires.set) (is_made sets s.key c.requires.set) c.requires.there
    (subst (λ (ps : List BlossomPart). IsRotated (parts_in sets ps) (parts_in sets c.turned_to-rest.result.items)) copied
    c.turned_to-rest.ensures.turned)
    c.turned_to-rest.ensures.first
    (ap (λ (ps : List BlossomPart). parts_in sets ps)
    (drop_here c.turned_to-rest.result.items 0 c.remove.result (omega (arith, c.remove.ensures.len)) c.remove.ensures.value
    ∙ ap (λ (ps : List BlossomPart). c.remove.result ∷ ps) (sym (c.into_iter.ensures.rest ∙ c.remove.ensures.items))))
    (c.in_ok-matches.ensures sets)
