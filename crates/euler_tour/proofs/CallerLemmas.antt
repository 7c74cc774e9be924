-- Lemmas that this crate and those above cite.
use Rattle.std.proofs.Common.{Bool, List, None, Option, Some, [], ap, arith, false, get_or, get_or-set_other, get_or-set_same, inl, inr, length, length-set, nat_lt, refl, set, slice_get, subst, suc, sum_by, sym, true, zero, ℕ, ◌&&◌, ◌*◌, ◌+◌, ◌/◌, ◌<◌, ◌==◌, ◌∙◌, ◌∷◌, ◌≡◌, ◌≤◌, ◌⊎◌}
use Rattle.euler_tour.proofs.Names.{and_parts, cases_eq, nat_tests, get_or_default_zero, slice_get_within, AreBefore, AreLast, IsLast, junction_at, pass_start, pass_start_on, ends_below, Edge, same_number, some_same, sum_by-set, AreCursors, IsCursor, is_even, not_even, half, half_more}

-- the two ends of the line at an index
pub end_a : (edges : List Edge) (k : ℕ) (e : Edge) → slice_get edges k ≡ Some e → junction_at edges (2 * k) ≡ Some e.a
end_a edges k e is = rw (half k, is_even k, is) refl

pub end_b : (edges : List Edge) (k : ℕ) (e : Edge) → slice_get edges k ≡ Some e → junction_at edges (2 * k + 1) ≡ Some e.b
end_b edges k e is = rw (half_more k, not_even k, is) refl

-- the edge that starts at a junction
pub started : (found : Option Edge) (back : Bool) (j : ℕ) → pass_start_on found back ≡ Some j
    → (e : Edge) × (found ≡ Some e) × (pass_start e back ≡ j)
started None back j is = absurd (cc)
started (Some e) back j is = (e, refl, some_same (pass_start e back) j is)

-- the ends of each edge are junctions
pub ends_are_below : (n : ℕ) (edges : List Edge) (k : ℕ) (e : Edge) → ends_below n edges ≡ true → slice_get edges k ≡ Some e
    → (e.a < n) × (e.b < n)
ends_are_below n [] k e all is = absurd (cc)
ends_are_below n (x ∷ edges) zero e all is = grind (arith, nat_tests)
ends_are_below n (x ∷ edges) (suc k) e all is =
    ends_are_below n edges k e (and_parts (nat_lt x.a n && nat_lt x.b n) (ends_below n edges) all).1 is

-- the last end of all is a cursor
cursor_first : (edges : List Edge) (IsDone : ℕ → Type 0) (j number : ℕ) → IsLast edges j (2 * length edges) number
    → IsCursor edges IsDone j number
cursor_first edges IsDone j number last = record {
  within = last.within;
  there = last.there;
  over = λ end low there. absurd (last.none end low (grind (arith, nat_tests, started, slice_get_within)) there);
}

-- so is the one before an end whose line is done
cursor_back : (edges : List Edge) (IsDone : ℕ → Type 0) (j end number : ℕ) → IsCursor edges IsDone j (end + 1) → IsDone (end / 2)
    → IsLast edges j end number → IsCursor edges IsDone j number
cursor_back edges IsDone j end number cursor done last = record {
  within = omega (arith, cursor.within, last.within);
  there = last.there;
  over = λ e low there. by_order e low there (nat_lt e end) (e == end) refl refl;
}
  where
    below : (e : ℕ) → nat_lt e end ≡ true → e < end
    below e less = grind (arith, nat_tests, less)

    above : (e : ℕ) → nat_lt e end ≡ false → (e == end) ≡ false → end + 1 ≤ e
    above e less same = grind (arith, nat_tests, less, same)

    by_order : (e : ℕ) → number ≤ e → junction_at edges e ≡ Some j → (less same : Bool) → nat_lt e end ≡ less → (e == end) ≡ same
        → IsDone (e / 2)
    by_order e low there true same is_less is_same = absurd (last.none e low (below e is_less) there)
    by_order e low there false true is_less is_same = subst (λ (n : ℕ). IsDone (n / 2)) (sym (same_number e end is_same)) done
    by_order e low there false false is_less is_same = cursor.over e (above e is_less is_same) there

module _ (edges : List Edge) (count : ℕ) (IsDone : ℕ → Type 0) (last before : List ℕ) (at : ℕ) where
  -- the cursors to begin with
  pub cursors_begin : length last ≡ count → length before ≡ 2 * length edges → at < count → AreBefore edges before
      → AreLast edges (2 * length edges) last → AreCursors edges count IsDone last before at
  cursors_begin is_last is_before below linked are = record {
    last_beside = is_last;
    before_beside = is_before;
    below = below;
    linked = linked;
    cursors = λ j low. cursor_first edges IsDone j (get_or last j 0) (are j (subst (λ (n : ℕ). j < n) (sym is_last) low));
  }

  -- they stay at another junction, and where more lines are done
  pub cursors_stay : (IsDoneNow : ℕ → Type 0) (next : ℕ) → ((k : ℕ) → IsDone k → IsDoneNow k) → next < count
      → AreCursors edges count IsDone last before at → AreCursors edges count IsDoneNow last before next
  cursors_stay IsDoneNow next more below ready = record {
    last_beside = ready.last_beside;
    before_beside = ready.before_beside;
    below = below;
    linked = ready.linked;
    cursors = λ j low. let cursor = ready.cursors j low in record {
      within = cursor.within;
      there = cursor.there;
      over = λ end from there. more (end / 2) (cursor.over end from there);
    };
  }

  -- the number of a cursor, as the code reads it
  pub cursor_read : (number : ℕ) → number ≡ get_or last at number → AreCursors edges count IsDone last before at
      → get_or last at 0 ≡ number
  cursor_read number is ready = grind (arith, nat_tests, get_or_default_zero, ready.last_beside, ready.below)

  -- the junction's cursor at an end, that end, and the one before it
  cursor_at : (end : ℕ) → get_or last at 0 ≡ end + 1 → AreCursors edges count IsDone last before at
      → IsCursor edges IsDone at (end + 1)
  cursor_at end here ready = subst (λ (n : ℕ). IsCursor edges IsDone at n) here (ready.cursors at ready.below)

  pub end_low : (end : ℕ) → get_or last at 0 ≡ end + 1 → AreCursors edges count IsDone last before at → end < 2 * length edges
  end_low end here ready = omega (arith, (cursor_at end here ready).within)

  end_before : (end : ℕ) → get_or last at 0 ≡ end + 1 → AreCursors edges count IsDone last before at
      → IsLast edges at end (get_or before end 0)
  end_before end here ready =
      let there : junction_at edges end ≡ Some at = (cursor_at end here ready).there end refl in
      ready.linked end at (subst (λ (n : ℕ). end < n) (sym ready.before_beside) (grind (arith, nat_tests, started, slice_get_within))) there

  -- where there is no end, each line with an end at the junction is done
  pub all_done : AreCursors edges count IsDone last before at → get_or last at 0 ≡ 0 → (k : ℕ) (e : Edge) → slice_get edges k ≡ Some e
      → ((e.a == at) ≡ true) ⊎ ((e.b == at) ≡ true) → IsDone k
  all_done ready none k e is (inl here) = subst IsDone (half k) ((ready.cursors at ready.below).over (2 * k) (omega (arith, none))
      (end_a edges k e is ∙ ap (λ (n : ℕ). Some n) (same_number e.a at here)))
  all_done ready none k e is (inr here) = subst IsDone (half_more k) ((ready.cursors at ready.below).over (2 * k + 1) (omega (arith, none))
      (end_b edges k e is ∙ ap (λ (n : ℕ). Some n) (same_number e.b at here)))

  -- the cursors after an end is skipped
  pub cursors_skip : (last2 : List ℕ) (end : ℕ) → last2 ≡ set last at (get_or before end 0) → get_or last at 0 ≡ end + 1
      → IsDone (end / 2) → AreCursors edges count IsDone last before at → AreCursors edges count IsDone last2 before at
  cursors_skip last2 end is_last here done ready = rw is_last record {
    last_beside = length-set last at (get_or before end 0) ∙ ready.last_beside;
    before_beside = ready.before_beside;
    below = ready.below;
    linked = ready.linked;
    cursors = λ j low. by_junction j low (cases_eq j at);
  }
    where
      by_junction : (j : ℕ) → j < count → (j ≡ at) ⊎ (j ≡ at → ⊥) → IsCursor edges IsDone j (get_or (set last at (get_or before end 0)) j 0)
      by_junction j low (inl is) =
          subst (λ (n : ℕ). IsCursor edges IsDone n (get_or (set last at (get_or before end 0)) n 0)) (sym is)
          (rw (get_or-set_same last at (get_or before end 0) 0 (subst (λ (n : ℕ). at < n) (sym ready.last_beside) ready.below))
          (cursor_back edges IsDone at end (get_or before end 0) (cursor_at end here ready) done (end_before end here ready)))
      by_junction j low (inr other) = rw (get_or-set_other last at j (get_or before end 0) 0 other) (ready.cursors j low)

  -- and their sum, which is less
  pub skipped_less : (u : ℕ) (last2 : List ℕ) (end : ℕ) → last2 ≡ set last at (get_or before end 0) → get_or last at 0 ≡ end + 1
      → AreCursors edges count IsDone last before at → u + sum_by (λ (n : ℕ). n) last2 < u + sum_by (λ (n : ℕ). n) last
  skipped_less u last2 end is here ready =
      grind (
        arith,
        nat_tests,
        sum_by-set (λ (n : ℕ). n) last at (get_or before end 0) 0 (subst (λ (n : ℕ). at < n) (sym ready.last_beside) ready.below),
        (end_before end here ready).within,
      )
