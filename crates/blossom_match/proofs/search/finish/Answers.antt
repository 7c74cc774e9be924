use Rattle.std.proofs.Common.{ℕ, List, ap, get_or, refl, ◌∙◌, arith}
use Rattle.blossom_match.proofs.Names.{OddSetValue, vertex_set, matches_in, set_in, search_value, hit_same, hit_is, nat_tests}
use Rattle.blossom_match.proofs.FreeLemmas.{met}
use Rattle.blossom_match.proofs.PartialMatchingLemmas.{all_stay, augmenting_new, augments_old, met_sets}
use Rattle.blossom_match.proofs.search.finish.Goals as goal
use Rattle.blossom_match.proofs.SearchLemmas.{is_one}

pub augment-requires : goal.augment-requires
augment-requires c =
    let s = c.args.s in
    let m = set_in c.single.new.sets c.in_ok-met.met in
    augmenting_new s.sets c.single.new.sets s.root s.tree.items s.rest.items m c.args.link
    (all_stay s.sets c.single.new.sets c.in_ok-met.met.key s.root s.tree.items s.rest.items c.in_ok-met.ensures.inserts s.stand)
    (grind (arith, nat_tests, hit_same, is_one, hit_is, c.requires, (ap (λ (v : OddSetValue). v.members) c.in_ok-met.ensures.is)))

pub returns : goal.returns
returns c =
    let s = c.args.s in
    let m = set_in c.single.new.sets c.in_ok-met.met in
    met c.args.t.now c.args.link (search_value s) _ m c.requires
    (augments_old s.sets c.single.new.sets s.root s.tree.items s.rest.items m c.args.link
    (matches_in c.single.new.sets c.augment.new.rest.items)
    (all_stay s.sets c.single.new.sets c.in_ok-met.met.key s.root s.tree.items s.rest.items c.in_ok-met.ensures.inserts s.stand)
    c.in_ok-augment.ensures)
    c.in_ok-met.ensures.table
    (c.in_ok-met.ensures.is ∙ ap (λ (hs : List ℕ). vertex_set m.key c.args.t.now c.args.link.to (get_or hs c.args.link.to 0))
    c.deref.ensures.value)
    c.take_place.ensures.counts c.take_place.ensures.fewer refl

pub invariant_of-result : goal.invariant_of-result
invariant_of-result c =
    let s = c.args.s in
    let v = search_value s in
    let m = set_in c.single.new.sets c.in_ok-met.met in
    record {
      stand = met_sets s.sets c.single.new.sets c.args.link v.root m v.tree v.rest
          (matches_in c.single.new.sets c.augment.new.rest.items) c.in_ok-met.ensures.inserts
          (ap (λ (n : OddSetValue). n.below) c.in_ok-met.ensures.is)
          (augments_old s.sets c.single.new.sets s.root s.tree.items s.rest.items m c.args.link
          (matches_in c.single.new.sets c.augment.new.rest.items)
          (all_stay s.sets c.single.new.sets c.in_ok-met.met.key s.root s.tree.items s.rest.items c.in_ok-met.ensures.inserts s.stand)
          c.in_ok-augment.ensures) s.stand;
    }
