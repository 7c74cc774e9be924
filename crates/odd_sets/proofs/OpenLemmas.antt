-- A set taken apart: sums over its parts.
use Rattle.std.proofs.Common.{◌≡◌, ℕ, ◌+◌, ◌%◌, ◌≤◌, ◌<◌, List, [], ◌∷◌, ◌++◌, length, take, drop, arith, refl, sym, ap, subst, ◌∙◌, Some, None, length-append, eqb, cond}
use Rattle.odd_sets.proofs.Names.{nat_tests, eqb-true, take-append-drop, flat_map, TableValue, Each, IsAdditive, DualSet, OddSetValue, dual_sets, dual_sets_of, count, height, one_if_equal, members_onto, AreTightInside, IsOddSet, IsTightInside, members_in, dual_sets_in, part_sets, blossom_edges_in, path_edges, IsPartPath, cycle_edges, IsPartCycle, AreOddSets, IsBlossom, IsRotated, FirstPartHolds, IsVertexOrBlossom, odd_set_of, matches_along, match_members, match_dual_sets, IsMatch, MatchValue, PartValue, match_sets, IsTightMatch}
use Rattle.odd_sets.specs.Opens.{OpensAt}
use Rattle.odd_sets.proofs.ListLemmas.{each-apart, each-flat_map, each-left, each-right, each-turned}
use Rattle.odd_sets.proofs.SumLemmas.{adds_none, dual_sets-append, count-append, height-append, some_member, none_tall}
use Rattle.odd_sets.proofs.BlossomLemmas.{members_turned, none_in, blossom_turned, sum_turned, paid_turned, made_kept}

pub bands_turned : (F : List DualSet → ℕ) → IsAdditive F → (i : ℕ) (ps : List PartValue)
    → F (dual_sets_in (drop i ps ++ take i ps)) ≡ F (dual_sets_in ps)
bands_turned F add i ps = sum_turned (λ (qs : List PartValue). F (dual_sets_in qs)) (dual_sets-append F add PartValue part_sets) i ps

-- an even number of parts and their matches have the same sets
sets_matched : (ps : List PartValue) → length ps % 2 ≡ 0 → flat_map part_sets ps ≡ flat_map match_sets (matches_along ps)
sets_matched [] even = refl
sets_matched (p ∷ []) even = absurd (omega arith)
sets_matched (p ∷ q ∷ ps) even = ap (λ (ss : List OddSetValue). p.odd_set ∷ q.odd_set ∷ ss) (sets_matched ps (omega arith))

pub bands_matched : (F : List DualSet → ℕ) → IsAdditive F → (ps : List PartValue) → length ps % 2 ≡ 0 → F (dual_sets_in ps)
    ≡ F (match_dual_sets (matches_along ps))
bands_matched F add ps even = ap (λ (ss : List OddSetValue). F (dual_sets_of ss)) (sets_matched ps even)

pub members_matched : (x : ℕ) (ps : List PartValue) → length ps % 2 ≡ 0 → count x (members_in ps) ≡ count x
    (match_members (matches_along ps))
members_matched x ps even = ap (λ (ss : List OddSetValue). count x (members_onto [] ss)) (sets_matched ps even)

-- the blossom edges inside the parts stay tight when the blossom is rotated
tolls_turned : (d : TableValue) (i : ℕ) (ps : List PartValue) → AreTightInside d (blossom_edges_in ps)
    → AreTightInside d (blossom_edges_in (drop i ps ++ take i ps))
tolls_turned d i ps h1 = grind (arith, nat_tests, each-flat_map, each-turned, each-apart)

pub joined_along : (p e : PartValue) (ps : List PartValue) → length ps % 2 ≡ 0 → IsPartPath p (ps ++ e ∷ [])
    → Each IsMatch (matches_along ps)
joined_along p e [] even l = tt
joined_along p e (q ∷ []) even l = absurd (omega arith)
joined_along p e (q ∷ r ∷ ps) even l =
    let less : length ps % 2 ≡ 0 = omega arith in
    (record { from = l.1.0.0; to = l.1.0.1 }, joined_along r e ps less l.1.1)

paid_along : (d : TableValue) (p e : PartValue) (ps : List PartValue) → length ps % 2 ≡ 0 → AreTightInside d (path_edges p (ps ++ e ∷ []))
    → AreTightInside d (blossom_edges_in ps) → Each (IsTightMatch d) (matches_along ps)
paid_along d p e [] even l all = tt
paid_along d p e (q ∷ []) even l all = absurd (omega arith)
paid_along d p e (q ∷ r ∷ ps) even l all =
    let less : length ps % 2 ≡ 0 = omega arith in
    let rest = each-right (IsTightInside d) q.odd_set.blossom_edges (r.odd_set.blossom_edges ++ blossom_edges_in ps) all in (
      record {
        link = l.1.0;
        first = each-left (IsTightInside d) q.odd_set.blossom_edges (r.odd_set.blossom_edges ++ blossom_edges_in ps) all;
        second =
            each-left (IsTightInside d) r.odd_set.blossom_edges (blossom_edges_in ps) rest;
      },
      paid_along d r e ps less l.1.1 (each-right (IsTightInside d) r.odd_set.blossom_edges (blossom_edges_in ps) rest),
    )

single_count : (left x : ℕ) (ms : List ℕ) → length ms ≡ 1 → count left ms ≡ 1 → count x ms ≡ one_if_equal x left
single_count left x [] one there = absurd (omega arith)
single_count left x (m ∷ []) one there =
    grind (arith, nat_tests, eqb-true, eqb, cond)
single_count left x (m ∷ n ∷ ms) one there = absurd (omega arith)

opens_single : (left key w : ℕ) (ms near : List ℕ) → length ms ≡ 1 → count left ms ≡ 1 → OpensAt left (odd_set_of key ms w near []) None []
opens_single left key w ms near one there = record {
  odd = omega (arith, one);
  sums = λ F add. omega (arith, adds_none F add);
  tall = refl;
  places = λ x. omega (arith, single_count left x ms one there);
  holds = tt;
  joined = tt;
  paid = λ d p. (tt, tt);
}

pub length_turned : (i : ℕ) (old : List PartValue) → length (drop i old ++ take i old) ≡ length old
length_turned i old = sum_turned (λ (qs : List PartValue). length qs) length-append i old

-- an additive quantity of a blossom is that of its first part and of the matches after it
sums_turned : (F : List DualSet → ℕ) → IsAdditive F → (old : List PartValue) (p : PartValue) (ps : List PartValue) (i : ℕ)
    → p ∷ ps ≡ drop i old ++ take i old → length ps % 2 ≡ 0
    → F (dual_sets_in old) ≡ F (dual_sets p.odd_set) + F (match_dual_sets (matches_along ps))
sums_turned F add old p ps i e even =
    omega (arith, bands_turned F add i old, ap (λ (qs : List PartValue). F (dual_sets_in qs)) e, add, bands_matched F add ps even)

places_turned : (x : ℕ) (old : List PartValue) (p : PartValue) (ps : List PartValue) (i : ℕ) → p ∷ ps ≡ drop i old ++ take i old →
    length ps % 2 ≡ 0 → count x (members_in old) ≡ count x p.odd_set.members + count x (match_members (matches_along ps))
places_turned x old p ps i e even =
    omega (arith, members_turned x i old, ap (λ (qs : List PartValue). count x (members_in qs)) e, count-append, members_matched x ps even)

paid_turned_all : (d : TableValue) (old : List PartValue) (p : PartValue) (ps : List PartValue) (i : ℕ) → p ∷ ps ≡ drop i old ++ take i old
    → length ps % 2 ≡ 0 → AreTightInside d (cycle_edges old ++ blossom_edges_in old)
    → AreTightInside d p.odd_set.blossom_edges × Each (IsTightMatch d) (matches_along ps)
paid_turned_all d old p ps i e even all =
    let around : AreTightInside d (cycle_edges (take i old ++ drop i old)) =
    subst (λ (qs : List PartValue). AreTightInside d (cycle_edges qs)) (sym (take-append-drop i old))
    (each-left (IsTightInside d) (cycle_edges old) (blossom_edges_in old) all)
    in
    let blossom : AreTightInside d (cycle_edges (p ∷ ps)) = subst (λ (qs : List PartValue). AreTightInside d (cycle_edges qs)) (sym e)
    (paid_turned d (take i old) (drop i old) around) in
    let inside : AreTightInside d (blossom_edges_in old) = each-right (IsTightInside d) (cycle_edges old) (blossom_edges_in old) all in
    let parts : AreTightInside d (blossom_edges_in (p ∷ ps)) = subst (λ (qs : List PartValue). AreTightInside d (blossom_edges_in qs))
    (sym e)
    (tolls_turned d i old inside) in (
      each-left (IsTightInside d) p.odd_set.blossom_edges (blossom_edges_in ps) parts,
      paid_along d p p ps even blossom (each-right (IsTightInside d) p.odd_set.blossom_edges (blossom_edges_in ps) parts),
    )

-- a rotated blossom is a blossom
pub turned_is_blossom : (old : List PartValue) (i : ℕ) → IsBlossom old → IsBlossom (drop i old ++ take i old)
turned_is_blossom old i r = record {
  odd = omega (arith, length_turned i old, r.odd);
  three = omega (arith, length_turned i old, r.three);
  linked = blossom_turned (take i old) (drop i old) (subst IsPartCycle (sym (take-append-drop i old)) r.linked);
  kept = each-turned (λ (p : PartValue). IsOddSet p.odd_set) i old r.kept;
}

-- the matches after the first part hold some vertex
matched_some : (ps : List PartValue) → 2 ≤ length ps → AreOddSets ps → (x : ℕ) × (1 ≤ count x (match_members (matches_along ps)))
matched_some [] two kept = absurd (omega arith)
matched_some (p ∷ []) two kept = absurd (omega arith)
matched_some (p ∷ q ∷ ps) two kept =
    grind (arith, nat_tests, some_member, count-append)

opens_turned : (left key w : ℕ) (ms near : List ℕ) (old : List PartValue) (p : PartValue) (ps : List PartValue) (i : ℕ)
    → p ∷ ps ≡ drop i old ++ take i old → ms ≡ members_in old → IsBlossom old → IsOddSet (odd_set_of key ms w near old) → count left ms ≡ 1
    → 1 ≤ count left p.odd_set.members → OpensAt left (odd_set_of key ms w near old) (Some p.odd_set) (matches_along ps)
opens_turned left key w ms near old p ps i e same blossom kept there first =
    let turned : IsBlossom (p ∷ ps) = subst IsBlossom (sym e) (turned_is_blossom old i blossom) in
    let even : length ps % 2 ≡ 0 = omega (arith, turned.odd) in
    let at = λ (x : ℕ). ap (λ (xs : List ℕ). count x xs) same in
    let here : count left (members_in ps) ≡ 0 =
    omega (arith, at left, places_turned left old p ps i e even, members_matched left ps even) in
    let none : height left (dual_sets_in ps) ≡ 0 = none_tall left (dual_sets_in ps) (none_in left ps turned.kept.1 here) in
    record {
      odd = kept.odd;
      sums = λ F add. sums_turned F add old p ps i e even;
      tall = omega (
        arith,
        bands_turned (height left) (height-append left) i old,
        ap (λ (qs : List PartValue). height left (dual_sets_in qs)) e,
        height-append left (dual_sets p.odd_set) (dual_sets_in ps),
      );
      places = λ x. at x ∙ places_turned x old p ps i e even;
      holds = (omega (arith, at left, places_turned left old p ps i e even), matched_some ps (omega (arith, turned.three)) turned.kept.1);
      joined = joined_along p p ps even turned.linked;
      paid = λ d all. paid_turned_all d old p ps i e even all;
    }

pub made_blossom : (ms : List ℕ) (ps : List PartValue) → 0 < length ps → IsVertexOrBlossom ms ps → (ms ≡ members_in ps) × IsBlossom ps
made_blossom ms [] some made = absurd (omega arith)
made_blossom ms (p ∷ ps) some made = made

pub opens_blossom : (left key w : ℕ) (s : OddSetValue) (ms near : List ℕ) (old blossom : List PartValue) (p : PartValue)
    (ps : List PartValue) (cs : List MatchValue) → s ≡ odd_set_of key ms w near old → IsVertexOrBlossom ms old → count left s.members ≡ 1
    → IsRotated old blossom → FirstPartHolds left blossom → blossom ≡ p ∷ ps → cs ≡ matches_along ps → OpensAt left s (Some p.odd_set) cs
opens_blossom left key w s ms near old blossom p ps cs is made there turned first e f =
    let all = made_blossom ms old (omega (arith, turned.within)) made in
    let here : count left ms ≡ 1 = subst (λ (u : OddSetValue). count left u.members ≡ 1) is there in
    let done = opens_turned left key w ms near old p ps turned.at (sym e ∙ turned.is) all.0 all.1 (made_kept key ms w near old made) here
    (subst (FirstPartHolds left) e first) in
    let moved = subst (λ (u : OddSetValue). OpensAt left u (Some p.odd_set) (matches_along ps)) (sym is) done in
    subst (λ (ks : List MatchValue). OpensAt left s (Some p.odd_set) ks) (sym f) moved

none_of : (left key w : ℕ) (ms near : List ℕ) (ps : List PartValue) → length ps ≡ 0 → IsVertexOrBlossom ms ps → count left ms ≡ 1
    → OpensAt left (odd_set_of key ms w near ps) None []
none_of left key w ms near [] none made there = opens_single left key w ms near made there
none_of left key w ms near (p ∷ ps) none made there = absurd (omega arith)

pub opens_place : (left key w : ℕ) (s : OddSetValue) (ms near : List ℕ) (ps : List PartValue) (cs : List MatchValue)
    → s ≡ odd_set_of key ms w near ps → IsVertexOrBlossom ms ps → count left s.members ≡ 1 → length ps ≡ 0 → cs ≡ []
    → OpensAt left s None cs
opens_place left key w s ms near ps cs is made there none f =
    let here : count left ms ≡ 1 = subst (λ (u : OddSetValue). count left u.members ≡ 1) is there in
    let moved = subst (λ (u : OddSetValue). OpensAt left u None []) (sym is) (none_of left key w ms near ps none made here) in
    subst (λ (ks : List MatchValue). OpensAt left s None ks) (sym f) moved
