use Rattle.std.proofs.Common.{arith, []}
use Rattle.blossom_match.proofs.Names.{branches_in, set_in, search_value, all_dual_sets, all_uses, sets_fewer, entry-comm, nat_tests}
use Rattle.blossom_match.proofs.LoweredLemmas.{carries, folds_cells, folds_row}
use Rattle.blossom_match.proofs.SearchLemmas.{shrunk, is_one, place_in}
use Rattle.blossom_match.proofs.PartialMatchingLemmas.{closed_sets, matches_stay}
use Rattle.blossom_match.proofs.search.shrink_by.Goals as goal

pub shrink-requires-clause-can : goal.shrink-requires-clause-can
shrink-requires-clause-can c = grind (arith, nat_tests, is_one, place_in, entry-comm, c.requires.step)

pub shrink-requires-clause-sets : goal.shrink-requires-clause-sets
shrink-requires-clause-sets c =
    let s = search_value c.args.s in
    sets_fewer c.args.s.sets (all_dual_sets s.root s.tree s.rest) (all_dual_sets s.root s.tree []) c.args.s.stand
    (λ k. omega (arith, all_uses k s.root s.tree s.rest, all_uses k s.root s.tree []))

pub fold_slacks-requires-clause-row : goal.fold_slacks-requires-clause-row
fold_slacks-requires-clause-row c =
    let sets = c.shrink.new.sets in
    folds_row c.args.link (set_in sets c.in_ok-blossom.blossom) (set_in sets c.shrink.new.root) (search_value c.args.s)
    (branches_in sets c.shrink.new.tree.items) c.args.reach.now c.requires.step c.in_ok-blossom.ensures.shrinks c.requires.cells

pub fold_slacks-requires-clause-cells : goal.fold_slacks-requires-clause-cells
fold_slacks-requires-clause-cells c =
    let sets = c.shrink.new.sets in
    folds_cells c.args.link (set_in sets c.in_ok-blossom.blossom) (set_in sets c.shrink.new.root) (search_value c.args.s)
    (branches_in sets c.shrink.new.tree.items) c.args.reach.now c.requires.step c.in_ok-blossom.ensures.shrinks c.requires.cells

pub returns-clause-rest : goal.returns-clause-rest
returns-clause-rest c =
    let s = search_value c.args.s in
    matches_stay c.args.s.sets c.shrink.new.sets c.in_ok-blossom.blossom.key (all_dual_sets s.root s.tree s.rest)
    c.args.s.rest.items c.in_ok-blossom.ensures.inserts c.args.s.stand
    (λ k. omega (arith, all_uses k s.root s.tree s.rest))

pub returns-clause-advances : goal.returns-clause-advances
returns-clause-advances c =
    shrunk (set_in c.shrink.new.sets c.in_ok-blossom.blossom) c.args.link (search_value c.args.s) _ _ _ c.in_ok-blossom.ensures.shrinks
    (returns-clause-rest c)

pub returns-clause-carries : goal.returns-clause-carries
returns-clause-carries c =
    carries c.args.link (set_in c.shrink.new.sets c.in_ok-blossom.blossom) (search_value c.args.s) _ c.args.reach.now
    c.fold_slacks.new.reach (returns-clause-advances c) c.in_ok-blossom.ensures.shrinks.folds c.fold_slacks.auto.reach c.fold_slacks.ensures

pub invariant_of-result : goal.invariant_of-result
invariant_of-result c =
    let s = search_value c.args.s in
    let e = c.in_ok-blossom.ensures in
    let sets = c.shrink.new.sets in
    record {
      stand = closed_sets c.args.s.sets sets (set_in sets c.in_ok-blossom.blossom) c.args.link s.root _ s.tree _ s.rest _ e.inserts
          e.shrinks
          (matches_stay c.args.s.sets sets c.in_ok-blossom.blossom.key (all_dual_sets s.root s.tree s.rest)
          c.args.s.rest.items e.inserts c.args.s.stand
          (λ k. omega (arith, all_uses k s.root s.tree s.rest))) c.args.s.stand;
    }
