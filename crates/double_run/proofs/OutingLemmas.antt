-- Each step of a traversal preserves the invariant.
use Rattle.std.proofs.Common.{◌≡◌, ◌<◌, ◌⊎◌, inl, inr, ℕ, ◌+◌, ◌*◌, ◌==◌, ◌&&◌, Bool, true, false, not, nat_lt, cond, List, [], ◌∷◌, ◌++◌, length, get_or, set, slice_get, Option, Some, None, arith, refl, sym, ap, ◌∙◌, subst, length-set, length-append}
use Rattle.std.proofs.lemmas.Option.{slice_get_within}
use Rattle.double_run.proofs.Names.{nat_tests, and_parts, Edge, Pass, one_if, edge_cost, edge_of, pass_end, pass_sum, is_strictly_increasing, pass_start, walk_end_from, DirectedLeg, directed_passes, remaining_count, IsTraversalInvariant, legs_are_below, is_visited, is_on_stack, is_exhausted, leg_pass, leg_return, has_end_at, eq_self, same_number, or_parts, after_edge, return_walk, edge_found, lost, walk_append, less_test}
use Rattle.double_run.proofs.LineLemmas.{both_ways, one_line, sum_push, times_push}
use Rattle.double_run.proofs.MetLemmas.{cost_more, found_at, less_left, marks, met_before, spent_on, touched, way_push}

-- a leg more is the first on the way home
pub home_push : (lines : List ℕ) (out : List DirectedLeg) (leg : DirectedLeg)
    → return_walk lines (out ++ leg ∷ []) ≡ leg_return lines leg ∷ return_walk lines out
home_push lines [] leg = refl
home_push lines (x ∷ out) leg = rw (home_push lines out leg) refl

-- and is one of the lines, if it is
pub there_push : (n : ℕ) (out : List DirectedLeg) (leg : DirectedLeg)
    → legs_are_below n (out ++ leg ∷ []) ≡ (legs_are_below n out && nat_lt leg.place n)
there_push n [] leg = grind (arith, nat_tests)
there_push n (x ∷ out) leg = grind (arith, nat_tests, there_push n out leg)

-- a pass along a line from where it starts, and home again
goes : (found : Option Edge) (e : Edge) (back : Bool) → found ≡ Some e → after_edge found back (pass_start e back) ≡ Some (pass_end e back)
goes found e back is = rw (is, eq_self (pass_start e back)) refl

homeward : (found : Option Edge) (e : Edge) (back : Bool) → found ≡ Some e
    → after_edge found (not back) (pass_end e back) ≡ Some (pass_start e back)
homeward found e true is = rw (is, eq_self e.a) refl
homeward found e false is = rw (is, eq_self e.b) refl

-- the traversal after another leg
pub out_kept : (lines : List ℕ) (edges : List Edge) (walk : List Pass) (out : List DirectedLeg) (passed : List Bool) (root : ℕ)
    (leg : DirectedLeg) (e : Edge) → is_strictly_increasing lines ≡ true → length lines ≡ length edges → slice_get edges leg.place ≡ Some e
    → slice_get passed leg.place ≡ Some false → IsTraversalInvariant lines edges walk out passed root (pass_start e leg.back)
    → IsTraversalInvariant lines edges (walk ++ leg_pass lines leg ∷ []) (out ++ leg ∷ []) (set passed leg.place true) root
    (pass_end e leg.back)
out_kept lines edges walk out passed root leg e up beside there left k = record {
  beside = omega (arith, length-set {A = Bool}, k.beside);
  led = walk_append lines edges (Some root) walk (leg_pass lines leg ∷ []) ∙ ap
      (λ (x : Option ℕ). walk_end_from lines edges x (leg_pass lines leg ∷ [])) k.led ∙ goes _ e leg.back found;
  home = ap (λ (w : List Pass). walk_end_from lines edges (Some (pass_end e leg.back)) w) (home_push lines out leg) ∙ ap
      (λ (x : Option ℕ). walk_end_from lines edges x (return_walk lines out)) (homeward _ e leg.back found) ∙ k.home;
  legs = there_push (length edges) out leg ∙ rw (k.legs, less_test leg.place (length edges) within) refl;
  counted = λ n. λ way. λ below. counts n way below (one_line lines leg.place n up (omega (arith, within, beside)) below)
      (k.counted n way below);
  sums = rw (
    sum_push lines edges walk (leg_pass lines leg),
    home_push lines out leg,
    cost_more passed edges leg.place e left there,
    found,
  ) (omega (arith, k.sums));
  spent = λ j. λ met. λ other. λ away. let parts = or_parts (is_on_stack edges out j) _ (sym (way_push edges out leg j) ∙ away) in
      by_end j other (subst (λ (x : Edge). (pass_start x leg.back == j) ≡ false) (found_at edges leg.place e there) parts.1)
      (met_before passed edges leg.place j e there met)
      (λ before. λ first. spent_on passed edges leg.place j (k.spent j before first parts.0));
}
  where
    within : leg.place < length edges
    within = slice_get_within edges leg.place e there

    found : edge_of lines edges (get_or lines leg.place 0) ≡ Some e
    found = edge_found lines edges leg.place e up (omega (arith, within, beside)) there

    counts : (n : ℕ) (way : Bool) → n < length lines → (get_or lines leg.place 0 == get_or lines n 0) ≡ (leg.place == n)
        → directed_passes (get_or lines n 0) way walk + directed_passes (get_or lines n 0) way (return_walk lines out)
        ≡ one_if (get_or passed n false)
        → directed_passes (get_or lines n 0) way (walk ++ leg_pass lines leg ∷ [])
        + directed_passes (get_or lines n 0) way (return_walk lines (out ++ leg ∷ []))
        ≡ one_if (get_or (set passed leg.place true) n false)
    counts n way below one all =
        rw (times_push (get_or lines n 0) way walk (leg_pass lines leg), home_push lines out leg, marks passed leg.place n left, one)
        (summed _ _ _ _ _ _ (both_ways (leg.place == n) way leg.back) all)
      where
        summed : (t x y h b c : ℕ) → x + y ≡ c → t + h ≡ b → (t + x) + (y + h) ≡ b + c
        summed t x y h b c ways all = omega arith

    by_end : (j : ℕ) → (pass_end e leg.back == j) ≡ false → (pass_start e leg.back == j) ≡ false
        → (is_visited passed edges j ≡ true) ⊎ (has_end_at e j ≡ true)
        → (is_visited passed edges j ≡ true → (pass_start e leg.back == j) ≡ false
        → is_exhausted (set passed leg.place true) edges j ≡ true)
        → is_exhausted (set passed leg.place true) edges j ≡ true
    by_end j last first (inl before) then = then before first
    by_end j last first (inr at) then = absurd (false_true (touched e leg.back j at first last))
      where
        false_true : false ≡ true → ⊥
        false_true is = cc

-- the traversal after it came back along its last leg
pub back_kept : (lines : List ℕ) (edges : List Edge) (walk : List Pass) (out : List DirectedLeg) (passed : List Bool) (root at : ℕ)
    (leg : DirectedLeg) (e : Edge) → is_strictly_increasing lines ≡ true → length lines ≡ length edges → slice_get edges leg.place ≡ Some e
    → is_exhausted passed edges at ≡ true → IsTraversalInvariant lines edges walk (out ++ leg ∷ []) passed root at
    → IsTraversalInvariant lines edges (walk ++ leg_return lines leg ∷ []) out passed root (pass_start e leg.back)
back_kept lines edges walk out passed root at leg e up beside there spent k = record {
  beside = k.beside;
  led = walk_append lines edges (Some root) walk (leg_return lines leg ∷ []) ∙ ap
      (λ (x : Option ℕ). walk_end_from lines edges x (leg_return lines leg ∷ [])) k.led ∙ came;
  home = ap (λ (x : Option ℕ). walk_end_from lines edges x (return_walk lines out)) (sym came) ∙ homes;
  legs = (and_parts (legs_are_below (length edges) out) _ (sym (there_push (length edges) out leg) ∙ k.legs)).0;
  counted = λ n. λ way. λ below. rw (times_push (get_or lines n 0) way walk (leg_return lines leg)) (omega (
    arith,
    ap
        (λ (w : List Pass). directed_passes (get_or lines n 0) way walk + directed_passes (get_or lines n 0) way w)
        (sym (home_push lines out leg)) ∙ k.counted n way below,
  ));
  sums = rw (sum_push lines edges walk (leg_return lines leg)) (omega (
    arith,
    ap
        (λ (w : List Pass). pass_sum lines edges edge_cost walk + pass_sum lines edges edge_cost w) (sym (home_push lines out leg)) ∙
        k.sums,
  ));
  spent = λ j. λ met. λ other. λ away. by_test j (at == j) refl (k.spent j met) (way_push edges out leg j ∙ rw
      (away, subst (λ (x : Edge). (pass_start x leg.back == j) ≡ false) (sym (found_at edges leg.place e there)) other) refl);
}
  where
    within : leg.place < length edges
    within = slice_get_within edges leg.place e there

    found : edge_of lines edges (get_or lines leg.place 0) ≡ Some e
    found = edge_found lines edges leg.place e up (omega (arith, within, beside)) there

    homes : walk_end_from lines edges (after_edge (edge_of lines edges (get_or lines leg.place 0)) (not leg.back) at)
        (return_walk lines out)
        ≡ Some root
    homes = ap (λ (w : List Pass). walk_end_from lines edges (Some at) w) (sym (home_push lines out leg)) ∙ k.home

    came : after_edge (edge_of lines edges (get_or lines leg.place 0)) (not leg.back) at ≡ Some (pass_start e leg.back)
    came = by_found (edge_of lines edges (get_or lines leg.place 0)) found homes
      where
        ends : (back t : Bool) → walk_end_from lines edges (cond t (Some (pass_end e (not back))) None) (return_walk lines out) ≡ Some root
            → cond t (Some (pass_end e (not back))) None ≡ Some (pass_start e back)
        ends true true is = refl
        ends false true is = refl
        ends back false is = absurd (lost lines edges (return_walk lines out) root is)

        by_found : (x : Option Edge) → x ≡ Some e
            → walk_end_from lines edges (after_edge x (not leg.back) at) (return_walk lines out) ≡ Some root
            → after_edge x (not leg.back) at ≡ Some (pass_start e leg.back)
        by_found None is = absurd (cc)
        by_found (Some y) is =
            subst (λ (z : Edge). walk_end_from lines edges (after_edge (Some z) (not leg.back) at) (return_walk lines out) ≡ Some root
            → after_edge (Some z) (not leg.back) at ≡ Some (pass_start e leg.back))
            (one y is) (ends leg.back (pass_start e (not leg.back) == at))
          where
            one : (y : Edge) → Some y ≡ Some e → e ≡ y
            one y is = cc

    by_test : (j : ℕ) (t : Bool) → (at == j) ≡ t
        → ((at == j) ≡ false → is_on_stack edges (out ++ leg ∷ []) j ≡ false → is_exhausted passed edges j ≡ true)
        → is_on_stack edges (out ++ leg ∷ []) j ≡ false → is_exhausted passed edges j ≡ true
    by_test j true is then away = subst (λ (n : ℕ). is_exhausted passed edges n ≡ true) (same_number at j is) spent
    by_test j false is then away = then is away

-- what falls
pub out_less : (out : List DirectedLeg) (passed : List Bool) (leg : DirectedLeg) → slice_get passed leg.place ≡ Some false
    → 2 * remaining_count (set passed leg.place true) + length (out ++ leg ∷ []) < 2 * remaining_count passed + length out
out_less out passed leg left = omega (arith, less_left passed leg.place left, length-append {A = DirectedLeg})

pub back_less : (n : ℕ) (out : List DirectedLeg) (leg : DirectedLeg) → n + length out < n + length (out ++ leg ∷ [])
back_less n out leg = omega (arith, length-append {A = DirectedLeg})
