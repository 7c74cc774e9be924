use Rattle.std.proofs.Common.{arith, ap, length, List, ℕ, ◌≡◌, ◌++◌, ◌∙◌, subst, sym}
use Rattle.blossom_match.proofs.Names.{length-map, into_iter_items, dual_sets, match_dual_sets, match_in, matches_in, set_in, AreSets, moat_of_set, Match, sets_fewer, core_in, set_of, sets_left, sets_right}
use Rattle.blossom_match.proofs.TakenLemmas.{core_of, core_uses, head_of, rest_of, rest_uses, taking_done, taking_more, taking_start, took_place, took_blossom}
use Rattle.blossom_match.proofs.taking.+taking.Goals as goal

pub take_matches-loop-c-init : goal.take_matches-loop-c-init
take_matches-loop-c-init t c =
    let sets = c.args.sets.now in
    record {
      taking = taking_start (matches_in sets c.args.matches.items) _ _ _ c.requires.joined c.requires.once
          (ap (λ (cs : List Match). matches_in sets cs) c.into_iter-rest.ensures.rest);
      sets = subst (λ (cs : List Match). AreSets sets (match_dual_sets (matches_in sets cs))) (sym c.into_iter-rest.ensures.rest)
          c.requires.sets;
    }

pub take_matches-take_apart-requires : goal.take_matches-take_apart-requires
take_matches-take_apart-requires t c =
    let sets = c.args.sets.now in
    let k = match_in sets c.in-Some.c in
    let rest = matches_in sets (into_iter_items c.next.new.self) in
    let e = ap (λ (cs : List Match). matches_in sets cs) c.in-Some.ensures.items in
    let h = head_of (matches_in sets c.args.matches.items) (matches_in sets (into_iter_items c.loop-c.rest)) _ _ _ _ k rest
    c.loop-c.invariant.taking e in
    let here = subst (λ (cs : List Match). AreSets sets (match_dual_sets (matches_in sets cs))) c.in-Some.ensures.items
    c.loop-c.invariant.sets in (
      omega (arith, h.size_first),
      (
        sets_left sets (dual_sets k.first) (dual_sets k.second ++ match_dual_sets rest) here,
        (h.from, h.once_first),
      ),
    )

pub take_matches-take_apart-requires-in-Some : goal.take_matches-take_apart-requires-in-Some
take_matches-take_apart-requires-in-Some t c =
    let sets = c.args.sets.now in
    let k = match_in sets c.in-Some.c in
    let rest = matches_in sets (into_iter_items c.next.new.self) in
    let e = ap (λ (cs : List Match). matches_in sets cs) c.in-Some.ensures.items in
    let h = head_of (matches_in sets c.args.matches.items) (matches_in sets (into_iter_items c.loop-c.rest)) _ _ _ _ k rest
    c.loop-c.invariant.taking e in
    let here = subst (λ (cs : List Match). AreSets sets (match_dual_sets (matches_in sets cs))) c.in-Some.ensures.items
    c.loop-c.invariant.sets in
    let after = sets_right sets (dual_sets k.first) (dual_sets k.second ++ match_dual_sets rest) here in
    (omega (arith, h.size_second), (sets_left sets (dual_sets k.second) (match_dual_sets rest) after, (h.to, h.once_second)))

pub take_matches-loop-c-preserved : goal.take_matches-loop-c-preserved
take_matches-loop-c-preserved t c =
    let sets = c.args.sets.now in
    let k = match_in sets c.in-Some.c in
    let rest = matches_in sets (into_iter_items c.next.new.self) in
    let here = subst (λ (cs : List Match). AreSets sets (match_dual_sets (matches_in sets cs))) c.in-Some.ensures.items
    c.loop-c.invariant.sets in
    record {
      taking = taking_more (matches_in sets c.args.matches.items) (matches_in sets (into_iter_items c.loop-c.rest)) _ _ _ _ _ _ _ _ _ k _
          c.loop-c.invariant.taking
          (ap (λ (cs : List Match). matches_in sets cs) c.in-Some.ensures.items)
          c.in_ok-take_apart.ensures c.in_ok-take_apart-2.ensures c.in_ok-add_pair.ensures;
      sets = sets_right sets (dual_sets k.second) (match_dual_sets rest)
          (sets_right sets (dual_sets k.first) (dual_sets k.second ++ match_dual_sets rest) here);
    }

pub take_matches-returns : goal.take_matches-returns
take_matches-returns t c =
    let sets = c.args.sets.now in
    let left = into_iter_items c.loop-c.rest in
    let none : length (matches_in sets left) ≡ 0 = omega (arith, c.in_default.ensures.cases, length-map left (match_in sets)) in
    taking_done (matches_in sets c.args.matches.items) _ _ _ _ _ c.loop-c.invariant.taking none

pub take_apart-open_at-requires-clause-set : goal.take_apart-open_at-requires-clause-set
take_apart-open_at-requires-clause-set t c = set_of c.args.sets.now c.args.s c.requires.sets

pub take_apart-take_matches-requires : goal.take_apart-take_matches-requires
take_apart-take_matches-requires t c =
    let sets = c.args.sets.now in
    let s = set_in sets c.args.s in
    let o = c.in_ok-core.ensures in
    let k = rest_of c.args.left s _ _ o c.requires.once in
    (omega (arith, k.fewer), (sets_fewer sets (dual_sets s) _ c.requires.sets (rest_uses c.args.left s _ _ o), (o.joined, k.once)))

pub take_apart-take_apart-requires : goal.take_apart-take_apart-requires
take_apart-take_apart-requires t c =
    let sets = c.args.sets.now in
    let s = set_in sets c.args.s in
    let o = c.in_ok-core.ensures in
    let e = ap (core_in sets) c.in-Some.is in
    let k = core_of c.args.left s (set_in sets c.in-Some.part) _ _ e o c.requires.once in (
      omega (arith, k.fewer),
      (sets_fewer sets (dual_sets s) _ c.requires.sets (core_uses c.args.left s (set_in sets c.in-Some.part) _ _ e o), (k.holds, k.once)),
    )

pub take_apart-take_matches-requires-in-Some : goal.take_apart-take_matches-requires-in-Some
take_apart-take_matches-requires-in-Some t c =
    let sets = c.args.sets.now in
    let s = set_in sets c.args.s in
    let o = c.in_ok-core.ensures in
    let k = rest_of c.args.left s _ _ o c.requires.once in
    (omega (arith, k.fewer), (sets_fewer sets (dual_sets s) _ c.requires.sets (rest_uses c.args.left s _ _ o), (o.joined, k.once)))

pub take_apart-returns-in_ok-take_matches-in-None : goal.take_apart-returns-in_ok-take_matches-in-None
take_apart-returns-in_ok-take_matches-in-None t c =
    let sets = c.args.sets.now in
    took_place c.args.left (set_in sets c.args.s) _ _ _ _ _ _ _ c.requires.once (ap (core_in sets) c.in-None.is) c.in_ok-core.ensures
    (c.in_ok-add_moat.ensures ∙ ap (λ (xs : List ℕ). c.args.moats.now ++ moat_of_set xs c.args.s.dual) c.members.ensures)
    c.in_ok-take_matches-in-None.ensures

pub take_apart-returns-in_ok-take_matches-in-Some : goal.take_apart-returns-in_ok-take_matches-in-Some
take_apart-returns-in_ok-take_matches-in-Some t c =
    let sets = c.args.sets.now in
    took_blossom c.args.left (set_in sets c.args.s) (set_in sets c.in-Some.part) _ _ _ _ _ _ _ _ _ c.requires.once
    (ap (core_in sets) c.in-Some.is) c.in_ok-core.ensures
    (c.in_ok-add_moat.ensures ∙ ap (λ (xs : List ℕ). c.args.moats.now ++ moat_of_set xs c.args.s.dual) c.members.ensures)
    c.in_ok-take_apart-in-Some.ensures c.in_ok-take_matches-in-Some.ensures
