-- The first partial tour, and the tour at the end.
use Rattle.std.proofs.Common.{◌≡◌, ◌≤◌, ◌<◌, inl, inr, ℕ, suc, ◌+◌, ◌%◌, ◌==◌, Bool, true, false, List, [], ◌∷◌, ◌++◌, map, length, get_or, slice_get, Option, Some, None, arith, refl, sym, ◌∙◌, ap, subst}
use Rattle.std.specs.Option.{option_or}
use Rattle.euler_tour.proofs.Names.{nat_tests, slice_get_within, Edge, Pass, IsValidPiece, ends_below, PieceValue, one_if, given_start, first_line, after_edge, edge_cost, edge_of, edge_value, pass_sum, passes, walk_end_from, edge_ends_at, remaining_ends, remaining_sum, one_of, pass_counts, pass_from, CanPass, IsTour, IsExhausted, IsTourInvariant, first_edge_start, first_edge_end, tour_end, tour_start, or_first_start, same_number, some_same, IsConnectedGraph, closing_edge, degree, BeginsWith, edge_there, lost, same_test}
use Rattle.euler_tour.proofs.LeftLemmas.{none_left, sum_none, times_at, times_cost, times_count, times_ends}
use Rattle.euler_tour.proofs.TripLemmas.{met}
use Rattle.euler_tour.proofs.WalkLemmas.{all_covered}
use Rattle.euler_tour.proofs.CallerLemmas.{ends_are_below}

-- ---- the beginning

-- the first edge
pub first_edge : (edges : List Edge) → 1 ≤ length edges
    → (e : Edge) × (slice_get edges 0 ≡ Some e) × (first_edge_start edges ≡ e.a) × (first_edge_end edges ≡ e.b)
first_edge [] some = absurd (omega arith)
first_edge (e ∷ edges) some = (e, refl, refl, refl)

-- where no start and no end is required, none is required in the other order
pub none_said : (one other : Option ℕ) → option_or one other ≡ None → option_or other one ≡ None
none_said None None is = refl
none_said None (Some b) is = absurd (cc)
none_said (Some a) other is = absurd (cc)

-- with the line back, each junction has an even number of ends
said_even : (edges : List Edge) (one other : Option ℕ) (j n : ℕ)
    → (degree (closing_edge (option_or one other) (option_or other one)) j + n) % 2 ≡ 0
    → ((n + one_if (or_first_start (option_or other one) edges == j)) + one_if (or_first_start (option_or one other) edges == j)) % 2 ≡ 0
said_even edges (Some a) (Some b) j n even = omega arith
said_even edges (Some a) None j n even = omega arith
said_even edges None (Some b) j n even = omega arith
said_even edges None None j n even = omega arith

-- as the tour in the making begins
pub begins_even : (p : PieceValue) (copies : List ℕ) → CanPass p copies → (j : ℕ)
    → ((remaining_ends p.edges (pass_counts copies) j + one_if (tour_end p == j)) + one_if (tour_start p == j)) % 2 ≡ 0
begins_even p copies can j = grind (arith, nat_tests, times_ends, said_even)

-- it begins with its first pass
pub begins_with : (home home2 : List Pass) (pass : Pass) (line : ℕ) → home ≡ [] → home2 ≡ home ++ pass ∷ []
    → pass ≡ record { line = line; back = false }
    → BeginsWith line home2
begins_with home home2 pass line is_home is_home2 is = rw (is_home2, is_home) is

-- ---- the end

-- none left, as a test
bare : (n : ℕ) → n ≡ 0 → (n == 0) ≡ true
bare n is = grind (arith, nat_tests)

-- where nothing is left at the goal, nothing is left at what is done
all_done : (edges : List Edge) (left : List ℕ) (goal tail j : ℕ) → remaining_ends edges left goal ≡ 0 → tail ≡ goal
    → IsExhausted edges left goal tail j → remaining_ends edges left j ≡ 0
all_done edges left goal tail j stuck meets (inl none) = none
all_done edges left goal tail j stuck meets (inr (inl is)) = subst (λ (n : ℕ). remaining_ends edges left n ≡ 0) (sym is) stuck
all_done edges left goal tail j stuck meets (inr (inr is)) = subst (λ (n : ℕ). remaining_ends edges left n ≡ 0) (sym (is ∙ meets)) stuck

-- an edge has an end at either of its ends
meets_a : (e : Edge) → 1 ≤ edge_ends_at e.a e
meets_a e = grind (arith, nat_tests)

meets_b : (e : Edge) → 1 ≤ edge_ends_at e.b e
meets_b e = grind (arith, nat_tests)

-- a line of which nothing is left is passed, and so nothing is left at its ends; as lines join all junctions,
-- nothing is left anywhere
all_passed : (edges : List Edge) (left : List ℕ) (count goal tail : ℕ) → IsConnectedGraph edges count → ends_below count edges ≡ true
    → goal < count → remaining_ends edges left goal ≡ 0 → tail ≡ goal
    → ((k : ℕ) (e : Edge) → slice_get edges k ≡ Some e → get_or left k 0 ≡ 0 → IsExhausted edges left goal tail e.a
    × IsExhausted edges left goal tail e.b) → (k : ℕ) (e : Edge) → slice_get edges k ≡ Some e → get_or left k 0 ≡ 0
all_passed edges left count goal tail joined ends below stuck meets over k e is =
    none_left edges left k e e.a is (meets_a e) (same_number (remaining_ends edges left e.a) 0
    (sym (joined is_bare leaves goal e.a below (ends_are_below count edges k e ends is).0) ∙ bare (remaining_ends edges left goal) stuck))
  where
    is_bare : ℕ → Bool
    is_bare j = remaining_ends edges left j == 0

    from_a : (k : ℕ) (e : Edge) → slice_get edges k ≡ Some e → (remaining_ends edges left e.a == 0) ≡ true
        → (remaining_ends edges left e.b == 0) ≡ true
    from_a k e is h =
        bare (remaining_ends edges left e.b) (all_done edges left goal tail e.b stuck meets
        (over k e is (none_left edges left k e e.a is (meets_a e) (same_number (remaining_ends edges left e.a) 0 h))).1)

    from_b : (k : ℕ) (e : Edge) → slice_get edges k ≡ Some e → (remaining_ends edges left e.b == 0) ≡ true
        → (remaining_ends edges left e.a == 0) ≡ true
    from_b k e is h =
        bare (remaining_ends edges left e.a) (all_done edges left goal tail e.a stuck meets
        (over k e is (none_left edges left k e e.b is (meets_b e) (same_number (remaining_ends edges left e.b) 0 h))).0)

    leaves : (k : ℕ) (e : Edge) → slice_get edges k ≡ Some e → is_bare e.a ≡ is_bare e.b
    leaves k e is = same_test (is_bare e.a) (is_bare e.b) (from_a k e is) (from_b k e is)

-- a walk that leads somewhere has a pass for each edge that it counts
counted : (lines : List ℕ) (edges : List Edge) (walk : List Pass) (at : Option ℕ) (to : ℕ) → walk_end_from lines edges at walk ≡ Some to
    → pass_sum lines edges one_of walk ≡ length walk
counted lines edges [] at to is = refl
counted lines edges (pass ∷ walk) None to is = absurd (lost lines edges walk to is)
counted lines edges (pass ∷ walk) (Some at) to is =
    by_edge (edge_of lines edges pass.line) is (counted lines edges walk (after_edge (edge_of lines edges pass.line) pass.back at) to is)
  where
    one_more : (n : ℕ) → 1 + n ≡ suc n
    one_more n = omega arith

    by_edge : (found : Option Edge) → walk_end_from lines edges (after_edge found pass.back at) walk ≡ Some to
        → pass_sum lines edges one_of walk ≡ length walk → edge_value one_of found + pass_sum lines edges one_of walk ≡ suc (length walk)
    by_edge None is rest = absurd (lost lines edges walk to is)
    by_edge (Some e) is rest = rw rest (one_more (length walk))

-- the way out is empty, and nothing is left where it began: the walk home is a tour
pub finished : (p : PieceValue) (copies left out : List ℕ) (home : List Pass) (at tail : ℕ) → IsValidPiece p → CanPass p copies → out ≡ []
    → remaining_ends p.edges left at ≡ 0
    → IsTourInvariant p.lines p.edges (pass_counts copies) left (map (pass_from p.lines) out) home (tour_start p) (tour_end p) at tail
    → (given_start p ≡ None → BeginsWith (first_line p.lines) home) → IsTour p copies home
finished p copies left out home at tail kept can is_out stuck k begins = record {
  led = grind (arith, nat_tests, k.goes_home);
  covered = all_covered p.lines home (λ i. λ below. (omega (arith, counts i below)));
  counts = counts;
  begins = begins;
  costs = whole _ _ _ (sums edge_cost) (none edge_cost) ∙ times_cost p.edges copies beside;
  long = sym (counted p.lines p.edges home (Some (tour_start p)) tail k.goes_home) ∙ whole _ _ _ (sums one_of) (none one_of) ∙
      times_count p.edges copies beside;
}
  where
    beside : length copies ≡ length p.edges
    beside = can.beside ∙ kept.beside

    back : at ≡ tour_end p
    back = sym (some_same (tour_end p) at (ap (λ (ends : List ℕ). walk_end_from p.lines p.edges (Some (tour_end p))
        (map (pass_from p.lines) ends)) (sym is_out) ∙ k.goes_out))

    meets : tail ≡ tour_end p
    meets = met (remaining_ends p.edges left at) at tail stuck (k.even at) ∙ back

    bare_goal : remaining_ends p.edges left (tour_end p) ≡ 0
    bare_goal = subst (λ (n : ℕ). remaining_ends p.edges left n ≡ 0) back stuck

    within : (i : ℕ) → i < length p.lines → i < length p.edges
    within i below = subst (λ (n : ℕ). i < n) kept.beside below

    back_within : (i : ℕ) (e : Edge) → slice_get p.edges i ≡ Some e → i < length p.lines
    back_within i e is = subst (λ (n : ℕ). i < n) (sym kept.beside) (slice_get_within p.edges i e is)

    times : (i : ℕ) → i < length p.lines → get_or (pass_counts copies) i 0 ≡ get_or copies i 0 + 1
    times i below = times_at copies i (subst (λ (n : ℕ). i < n) (sym can.beside) below)

    passed : (i : ℕ) → i < length p.lines → (0 + passes (get_or p.lines i 0) home) + get_or left i 0 ≡ get_or copies i 0 + 1
    passed i below =
        ap (λ (ends : List ℕ). (passes (get_or p.lines i 0) (map (pass_from p.lines) ends) + passes (get_or p.lines i 0) home) + get_or
        left i 0) (sym is_out)
        ∙ k.counted i below ∙ times i below

    least : (n l c : ℕ) → (0 + n) + l ≡ c + 1 → l ≡ 0 → 1 ≤ n
    least n l c sum empty = omega arith

    all : (i : ℕ) (e : Edge) → slice_get p.edges i ≡ Some e → get_or left i 0 ≡ 0
    all = all_passed p.edges left (length p.junctions) (tour_end p) tail kept.joined kept.ends (grind (arith, nat_tests)) bare_goal meets
        (λ i. λ e. λ is. λ empty. k.done i e is (least _ _ _ (passed i (back_within i e is)) empty))

    nothing : (i : ℕ) → i < length p.edges → get_or left i 0 ≡ 0
    nothing i below = let e = edge_there p.edges i below in all i e.0 e.1

    none : (f : Edge → ℕ) → remaining_sum f p.edges left ≡ 0
    none f = sum_none f p.edges left nothing

    whole : (n l t : ℕ) → (0 + n) + l ≡ t → l ≡ 0 → n ≡ t
    whole n l t sum empty = omega arith

    counts : (i : ℕ) → i < length p.lines → passes (get_or p.lines i 0) home ≡ get_or copies i 0 + 1
    counts i below = whole _ _ _ (passed i below) (nothing i (within i below))

    sums : (f : Edge → ℕ) → (0 + pass_sum p.lines p.edges f home) + remaining_sum f p.edges left
        ≡ remaining_sum f p.edges (pass_counts copies)
    sums f =
        ap (λ (ends : List ℕ). (pass_sum p.lines p.edges f (map (pass_from p.lines) ends) + pass_sum p.lines p.edges f home)
        + remaining_sum f
        p.edges left) (sym is_out)
        ∙ k.sums f
