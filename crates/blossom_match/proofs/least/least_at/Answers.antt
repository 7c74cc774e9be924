use Rattle.std.proofs.Common.{◌≡◌, ◌≤◌, ℕ, List, ap, get_or, length, subst, sym, ◌∙◌}
use Rattle.blossom_match.proofs.Names.{count, match_members, stored_height, outer_vertices, CanSearch, IsLesserChange, AreOuterSlacks, AreSearchSlacks, IsBestCandidate, IsCandidateAmong, IsSearchMask, branches_in, search_value, TableValue, IsTable, SearchValue, Branch, Target, IsBestShown}
use Rattle.blossom_match.specs.declared.least.Kind.TheVariants as kind
use Rattle.blossom_match.proofs.BoundLemmas.{bounds_of, free_near, leads_on, IsAimedAt}
use Rattle.blossom_match.proofs.least.least_at.Goals as goal

pub first_target-first-requires-clause-near : goal.first_target-first-requires-clause-near
first_target-first-requires-clause-near c = λ b hb.
    free_near c.args.t.now (stored_height (search_value c.args.s.now)) (search_value c.args.s.now) c.args.s.now.heights.items
    c.args.reach.now
    b c.requires.table
    c.requires.can.search c.requires.reaches (subst (λ (ks : List ℕ). 1 ≤ count b ks) c.deref.ensures.value hb)

-- what is known of the aims, by the search's own lists
aims_at : (t : TableValue) (s : SearchValue) (hs reach mask free : List ℕ) (first met grown crossed : Target) → IsTable t → CanSearch t s
    → hs ≡ s.heights → AreSearchSlacks t s reach → IsSearchMask t s mask → free ≡ s.free → IsCandidateAmong hs reach kind.Augment free first
    → IsBestCandidate hs reach kind.Augment s.free first met → IsBestShown hs reach mask met grown
    → IsBestCandidate hs reach kind.Shrink (outer_vertices s) grown crossed
    → IsAimedAt t (stored_height s) s hs reach first met grown crossed
aims_at t s hs reach mask free first met grown crossed is can same reaches m free_is at_first at_met at_grown at_crossed = record {
  table = is;
  search = can.search;
  heights = λ x. ap (λ (ks : List ℕ). get_or ks x 0) same;
  size = ap (λ (ks : List ℕ). length ks) same ∙ can.size;
  reaches = subst (λ (ks : List ℕ). AreOuterSlacks t ks s.root s.tree reach) (sym same) reaches;
  at_first = subst (λ (ks : List ℕ). IsCandidateAmong hs reach kind.Augment ks first) free_is at_first;
  at_met = at_met;
  at_grown = at_grown (match_members s.rest) m.masks;
  at_crossed = at_crossed;
}

pub change_to-change-requires : goal.change_to-change-requires
change_to-change-requires c =
    let s = search_value c.args.s.now in
    let hs = c.args.heights.now in
    let r = c.args.reach.now in
    let first = c.first_target-first.result in
    let met = c.best_target-met.result in
    leads_on c.args.t.now (stored_height s) s hs r first met c.best_shown-grown.result c.best_outer-crossed.result
    (aims_at c.args.t.now s hs r c.args.mask.now c.deref.result.now first met c.best_shown-grown.result c.best_outer-crossed.result
    c.requires.table c.requires.can c.requires.heights c.requires.reaches c.requires.masks c.deref.ensures.value
    c.first_target-first.ensures
    (subst (λ (ks : List ℕ). IsBestCandidate hs r kind.Augment ks first met) c.deref-2.ensures.value c.best_target-met.ensures)
    c.best_shown-grown.ensures c.best_outer-crossed.ensures)

pub returns : goal.returns
returns c =
    let s = search_value c.args.s.now in
    let sets = c.args.s.now.sets in
    let hs = c.args.heights.now in
    let r = c.args.reach.now in
    let first = c.first_target-first.result in
    let met = c.best_target-met.result in
    let grown = c.best_shown-grown.result in
    let crossed = c.best_outer-crossed.result in
    let change = c.change_to-change.result in
    bounds_of c.args.t.now (stored_height s) s hs r first met grown crossed change c.scan_blossoms.result
    (aims_at c.args.t.now s hs r c.args.mask.now c.deref.result.now first met grown crossed
    c.requires.table c.requires.can c.requires.heights c.requires.reaches c.requires.masks c.deref.ensures.value
    c.first_target-first.ensures
    (subst (λ (ks : List ℕ). IsBestCandidate hs r kind.Augment ks first met) c.deref-2.ensures.value c.best_target-met.ensures)
    c.best_shown-grown.ensures c.best_outer-crossed.ensures) c.change_to-change.ensures
    (subst (λ (ks : List Branch). IsLesserChange (branches_in sets ks) change c.scan_blossoms.result) c.deref-3.ensures.value
    c.scan_blossoms.ensures)
