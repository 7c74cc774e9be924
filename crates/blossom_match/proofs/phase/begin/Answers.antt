use Rattle.std.proofs.Common.{List, ℕ, ap, arith, get_or, refl, ◌∙◌}
use Rattle.blossom_match.proofs.Names.{OddSetValue, match_dual_sets, vertex_set, branches_in, matches_in, set_in, Branch}
use Rattle.blossom_match.proofs.PartialMatchingLemmas.{begun_sets, matches_stay}
use Rattle.blossom_match.proofs.phase.begin.Goals as goal

pub invariant_of-result : goal.invariant_of-result
invariant_of-result c =
    let from = c.args.from in
    let sets = c.single.new.sets in
    let ins = c.in_ok-root.ensures.inserts in
    let old = matches_in from.sets from.matches.items in
    record {
      stand = begun_sets from.sets sets (set_in sets c.in_ok-root.root) (branches_in sets c.new.result.items) old _ ins
          (ap (λ (v : OddSetValue). v.below) c.in_ok-root.ensures.is) (ap (λ (ks : List Branch). branches_in sets ks) c.new.ensures.items)
          (matches_stay from.sets sets c.in_ok-root.root.key (match_dual_sets old) from.matches.items ins from.stand (λ k. omega arith))
          from.stand;
    }

pub returns : goal.returns
returns c =
    let from = c.args.from in
    let sets = c.single.new.sets in
    let old = matches_in from.sets from.matches.items in
    record {
      table = c.in_ok-root.ensures.table;
      root = c.in_ok-root.ensures.is ∙ ap (λ (hs : List ℕ). vertex_set c.in_ok-root.root.key c.args.t.now c.args.place
          (get_or hs c.args.place 0)) c.deref.ensures.value;
      heights = refl;
      tree = ap (λ (ks : List Branch). branches_in sets ks) c.new.ensures.items;
      rest = matches_stay from.sets sets c.in_ok-root.root.key (match_dual_sets old) from.matches.items c.in_ok-root.ensures.inserts
          from.stand
          (λ k. omega arith);
      free = refl;
    }
