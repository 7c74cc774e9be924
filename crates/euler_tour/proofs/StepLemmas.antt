-- Each step of a partial tour leads to a partial tour.
use Rattle.std.proofs.Common.{◌≡◌, ◌≤◌, ℕ, ◌+◌, ◌*◌, ◌/◌, List, [], ◌∷◌, ◌++◌, length, get_or, slice_get, false, Option, None, Some, Vec, Global, arith, ap, ◌∙◌, subst, sym, length-append}
use Rattle.euler_tour.proofs.Names.{Edge, Pass, IsValidPiece, PieceValue, given_start, first_line, remaining_ends, remaining_sum, decremented_at, one_of, pass_counts, AreBefore, AreLast, junction_across, junction_at, pass_to, CanPass, HasTourTables, first_edge_start, first_edge_end, tour_end, tour_start, or_first_start, nat_tests, slice_get_within, SkipsEnd, BeginsTour, IsEmptyTour, IsTourStep, begins_on, first_is}
use Rattle.euler_tour.specs.declared.line_ends.LineEnds.{LineEnds}
use Rattle.euler_tour.specs.declared.partial_tour.PartialTour.{PartialTour}
use Rattle.euler_tour.proofs.CursorLemmas.{back_ready, begins_ready, out_ready, over_ready}
use Rattle.euler_tour.proofs.LeftLemmas.{times_at, times_length, left_less}
use Rattle.euler_tour.proofs.TourLemmas.{begins_with, first_edge, none_said}
use Rattle.euler_tour.proofs.TripLemmas.{back_kept, first_kept, out_kept}
use Rattle.euler_tour.proofs.CallerLemmas.{skipped_less, started, ends_are_below}

-- a step out along the line with an end
pub out_step : (p : PieceValue) (t : PartialTour) (left out : Vec ℕ Global) (end next : ℕ) → IsValidPiece p → HasTourTables p t
    → get_or t.ends.last.items t.at 0 ≡ end + 1 → 1 ≤ get_or t.left.items (end / 2) 0
    → left.items ≡ decremented_at t.left.items (end / 2) → out.items ≡ t.out.items ++ end ∷ [] → junction_across p.edges end ≡ Some next
    → IsTourStep p t (record { left = left; ends = t.ends; out = out; home = t.home; at = next; tail = t.tail })
out_step p t left out end next kept ready here some is_left is_out beyond = record {
  ready = out_ready p.edges (length p.junctions) t.left.items left.items t.ends.last.items t.ends.before.items t.out.items out.items
      t.at end next is_left is_out (grind (arith, nat_tests, started, slice_get_within)) (grind (arith, nat_tests, started, ends_are_below))
      ready;
  keeps = λ copies. λ k. record {
    keeps = out_kept p.lines p.edges (pass_counts copies) t.left.items left.items t.out.items out.items t.home (tour_start p) (tour_end p)
        t.at t.tail end next is_left is_out kept.rising kept.beside some there beyond k.keeps;
    begins = k.begins;
  };
  less = grind (arith, nat_tests, started, length-append, left_less);
}
  where
    there : junction_at p.edges end ≡ Some t.at
    there = (ready.chains.cursors t.at ready.chains.below).there end here

-- a step back to an end, and home along its line
pub back_step : (p : PieceValue) (t : PartialTour) (out : Vec ℕ Global) (home : List Pass) (end from : ℕ) → IsValidPiece p
    → HasTourTables p t → remaining_ends p.edges t.left.items t.at ≡ 0 → t.out.items ≡ out.items ++ end ∷ []
    → home ≡ t.home ++ pass_to p.lines end ∷ [] → junction_at p.edges end ≡ Some from
    → IsTourStep p t (record { left = t.left; ends = t.ends; out = out; home = home; at = from; tail = from })
back_step p t out home end from kept ready stuck is_out is_home starts = record {
  ready = back_ready p.edges (length p.junctions) t.left.items t.ends.last.items t.ends.before.items t.out.items out.items t.at end from
      is_out (grind (arith, nat_tests, started, ends_are_below)) ready;
  keeps = λ copies. λ k. record {
    keeps = back_kept p.lines p.edges (pass_counts copies) t.left.items t.out.items out.items t.home home (tour_start p) (tour_end p) t.at
        t.tail
        from end is_out is_home kept.rising kept.beside starts stuck k.keeps;
    begins = λ none. rw is_home (begins_on (first_line p.lines) t.home (pass_to p.lines end ∷ []) (k.begins none));
  };
  less = grind (arith, nat_tests, length-append);
}

-- an end whose line doesn't remain is skipped
pub over_step : (p : PieceValue) (t : PartialTour) (ends : LineEnds) (end : ℕ) → HasTourTables p t
    → get_or t.ends.last.items t.at 0 ≡ end + 1 → get_or t.left.items (end / 2) 0 ≡ 0 → SkipsEnd t.at end t.ends ends
    → IsTourStep p t (record { left = t.left; ends = ends; out = t.out; home = t.home; at = t.at; tail = t.tail })
over_step p t ends end ready here none skips = record {
  ready = rw skips.before (over_ready p.edges (length p.junctions) t.left.items t.ends.last.items ends.last.items t.ends.before.items
      t.out.items t.at end skips.last here none ready);
  keeps = λ copies. λ k. record { keeps = k.keeps; begins = k.begins };
  less = skipped_less p.edges (length p.junctions) (λ k. get_or t.left.items k 0 ≡ 0) t.ends.last.items t.ends.before.items t.at
      (2 * remaining_sum one_of p.edges t.left.items + length t.out.items) ends.last.items end skips.last here ready.chains;
}

-- the partial tour before its first step
pub begins_fresh : (p : PieceValue) (copies : List ℕ) (left out : Vec ℕ Global) (ends : LineEnds) (home : List Pass) (at tail : ℕ)
    → IsValidPiece p → CanPass p copies → left.items ≡ pass_counts copies → AreLast p.edges (2 * length p.edges) ends.last.items
    → AreBefore p.edges ends.before.items → length ends.last.items ≡ length p.junctions
    → length ends.before.items ≡ 2 * length p.edges → out.items ≡ [] → home ≡ [] → at ≡ tour_end p
    → IsEmptyTour p (record { left = left; ends = ends; out = out; home = home; at = at; tail = tail })
begins_fresh p copies left out ends home at tail kept can is_left are_last are_before last_beside before_beside is_out is_home
    is_at = record {
      ready = begins_ready p.edges (length p.junctions) left.items ends.last.items ends.before.items out.items at left_beside last_beside
          before_beside is_out (rw is_at (grind (arith, nat_tests))) are_before are_last;
      home = is_home;
      out = is_out;
      some = rw (is_left, times_at copies 0 (subst (λ (n : ℕ). 1 ≤ n) (sym can.beside) kept.some)) (some (get_or copies 0 0));
    }
  where
    left_beside : length left.items ≡ length p.edges
    left_beside = ap (λ (xs : List ℕ). length xs) is_left ∙ times_length copies ∙ can.beside ∙ kept.beside

    some : (n : ℕ) → 1 ≤ n + 1
    some n = omega arith

-- and after the first line is passed
pub begins_on_first : (p : PieceValue) (t : PartialTour) (left : Vec ℕ Global) (home : List Pass) (pass : Pass) (tail : ℕ) → IsValidPiece p
    → IsEmptyTour p t
    → given_start p ≡ None → left.items ≡ decremented_at t.left.items 0 → home ≡ t.home ++ pass ∷ []
    → pass ≡ record { line = first_line p.lines; back = false } → tail ≡ first_edge_end p.edges
    → BeginsTour p t (record { left = left; ends = t.ends; out = t.out; home = home; at = t.at; tail = tail })
begins_on_first p t left home pass tail kept fresh closed is_left is_home is_pass is_tail = λ copies. λ k. record {
  keeps = first_kept p.lines p.edges (pass_counts copies) t.left.items left.items t.out.items t.home home (tour_start p) (tour_end p) t.at
      t.tail
      tail e.0 is_left fresh.out fresh.home (rw (is_pass, first_is p.lines) at is_home) kept.rising kept.beside e.1 fresh.some
      (ap at_first closed ∙ e.2) (ap at_first (none_said p.start p.end closed) ∙ e.2) (is_tail ∙ e.3) k;
  begins = λ none. begins_with t.home home pass (first_line p.lines) fresh.home is_home is_pass;
}
  where
    e : (e : Edge) × (slice_get p.edges 0 ≡ Some e) × (first_edge_start p.edges ≡ e.a) × (first_edge_end p.edges ≡ e.b)
    e = first_edge p.edges (subst (λ (n : ℕ). 1 ≤ n) kept.beside kept.some)

    at_first : Option ℕ → ℕ
    at_first junction = or_first_start junction p.edges
