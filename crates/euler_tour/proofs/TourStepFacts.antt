-- Partial tours over two lines, 4 from junction 0 to 1 and 7 from 1 to 2: what their states and steps require.
use Rattle.std.proofs.Common.{◌≡◌, ℕ, ◌+◌, ◌%◌, ◌<◌, ◌≤◌, ◌==◌, ◌⊎◌, true, false, List, [], ◌∷◌, Option, Some, None, Ok, length, map, get_or, refl, arith}
use Rattle.euler_tour.proofs.Names.{AreBefore, AreLast, BeginsTour, BeginsWith, Edge, HasTourTables, IsEmptyTour, IsPartialTour, PieceValue, SkipsEnd, all_below, first_edge_end, first_edge_start, one_if, pass_from, passes, remaining_ends, remaining_sum, pass_sum, tour_end, tour_rank, tour_start, walk_end_from}
use Rattle.euler_tour.specs.Cursors.{IsCursor}
use Rattle.euler_tour.specs.LineEnds.{AddsEnd}
use Rattle.euler_tour.specs.PartialTours.{IsTourInvariantOf, StepsTour}
use Rattle.euler_tour.specs.declared.line_ends.LineEnds.{LineEnds}
use Rattle.euler_tour.specs.declared.partial_tour.PartialTour.{PartialTour}
use Rattle.euler_tour.proofs.TourFacts.{at, edge}

abbrev pub lines : List ℕ
lines = 4 ∷ 7 ∷ []

abbrev pub edges : List Edge
edges = edge 0 1 3 ∷ edge 1 2 5 ∷ []

abbrev pub path : Option ℕ → Option ℕ → PieceValue
path start end = record {
  block = 0;
  lines = lines;
  junctions = at 0 ∷ at 3 ∷ at 8 ∷ [];
  edges = edges;
  degrees = 1 ∷ 2 ∷ 1 ∷ [];
  start = start;
  end = end;
}

-- the first line's two ends, and where a walk starts and ends
pub known_ends : (first_edge_start edges ≡ 0) × (first_edge_end edges ≡ 1) × (tour_start (path None (Some 2)) ≡ 2)
    × (tour_end (path (Some 1) None) ≡ 1) × (tour_start (path (Some 1) (Some 2)) ≡ 1) × (tour_end (path (Some 1) (Some 2)) ≡ 2)
known_ends = (refl, refl, refl, refl, refl, refl)

-- of the four ends, the second and third are at junction 1: the last of them, and the last before it
pub known_last : (last : List ℕ) → AreLast edges 4 last → length last ≡ 3 → (get_or last 1 0 ≤ 4) × (get_or last 1 0 ≡ 2 → ⊥)
    × (get_or last 1 0 ≡ 4 → ⊥)
known_last last are three = let second = are 1 (omega (arith, three)) in (
  second.within,
  λ two. second.none 2 (omega (arith, two)) (omega arith) refl,
  λ four. other (second.there 3 four),
)
  where
    other : ◌≡◌ {A = Option ℕ} (Some 2) (Some 1) → ⊥
    other is = cc

pub known_before : (before : List ℕ) → AreBefore edges before → length before ≡ 4 → (get_or before 2 0 ≤ 2) × (get_or before 2 0 ≡ 0 → ⊥)
known_before before are four = let third = are 2 1 (omega (arith, four)) refl in
    (third.within, λ none. third.none 1 (omega (arith, none)) (omega arith) refl)

-- one more end, and a cursor that skips one
pub known_added : (old new : LineEnds) → old.last.items ≡ 0 ∷ 2 ∷ 0 ∷ [] → old.before.items ≡ 0 ∷ 0 ∷ [] → AddsEnd 1 old new
    → (new.before.items ≡ 0 ∷ 0 ∷ 2 ∷ []) × (new.last.items ≡ 0 ∷ 3 ∷ 0 ∷ [])
known_added old new last before adds = (
  rw (last, before) at adds.before,
  rw (last, before) at adds.last,
)

pub known_skipped : (old new : LineEnds) → old.last.items ≡ 1 ∷ 3 ∷ 4 ∷ [] → old.before.items ≡ 0 ∷ 0 ∷ 2 ∷ 0 ∷ [] → SkipsEnd 1 2 old new
    → (new.last.items ≡ 1 ∷ 2 ∷ 4 ∷ []) × (new.before ≡ old.before)
known_skipped old new last before skips = (rw (last, before) at skips.last, skips.before)

-- a cursor is at an end of its junction, and the line of each later end there is done
pub known_cursor : (IsDone : ℕ → Type 0) (number : ℕ) → IsCursor edges IsDone 1 number
    → (number ≤ 4) × (number ≤ 2 → IsDone 1) × (number ≡ 1 → ⊥)
known_cursor IsDone number is = (is.within, λ low. is.over 2 low refl, λ one. other (is.there 0 one))
  where
    other : ◌≡◌ {A = Option ℕ} (Some 0) (Some 1) → ⊥
    other same = cc

-- a partial tour where the second line has two copies: passes and what remains add up, and both ways lead on
pub known_tour : (t : PartialTour) → IsPartialTour (path None None) (0 ∷ 2 ∷ []) t
    → (passes 7 (map (pass_from lines) t.out.items) + passes 7 t.home + get_or t.left.items 1 0 ≡ 3)
    × (walk_end_from lines edges (Some 0) (map (pass_from lines) t.out.items) ≡ Some t.at)
    × (walk_end_from lines edges (Some 0) t.home ≡ Some t.tail) × BeginsWith 4 t.home
    × ((f : Edge → ℕ) → pass_sum lines edges f (map (pass_from lines) t.out.items) + pass_sum lines edges f t.home
    + remaining_sum f edges t.left.items ≡ remaining_sum f edges (1 ∷ 3 ∷ []))
known_tour t is = (
  is.keeps.counted 1 (omega arith),
  is.keeps.goes_out,
  is.keeps.goes_home,
  is.begins refl,
  is.keeps.sums,
)

-- an even number of ends is left at each junction, but for where the ways end; a line passed home leaves no ends but there
pub known_even : (t : PartialTour) → IsPartialTour (path None None) (0 ∷ 2 ∷ []) t
    → ((remaining_ends edges t.left.items 2 + one_if (t.at == 2) + one_if (t.tail == 2)) % 2 ≡ 0)
    × (1 ≤ passes 7 t.home → (remaining_ends edges t.left.items 2 ≡ 0) ⊎ ((◌≡◌ {A = ℕ} 2 0) ⊎ (2 ≡ t.tail)))
    × (1 ≤ passes 7 t.home → (remaining_ends edges t.left.items 1 ≡ 0) ⊎ ((◌≡◌ {A = ℕ} 1 0) ⊎ (1 ≡ t.tail)))
known_even t is = (
  is.keeps.even 2,
  λ passed. (is.keeps.done 1 (edge 1 2 5) refl passed).1,
  λ passed. (is.keeps.done 1 (edge 1 2 5) refl passed).0,
)

-- its tables fit the piece
pub known_tables : (t : PartialTour) → HasTourTables (path None None) t
    → (length t.left.items ≡ 2) × (all_below 4 t.out.items ≡ true) × (length t.ends.last.items ≡ 3) × (length t.ends.before.items ≡ 4)
    × (t.at < 3) × AreBefore edges t.ends.before.items
    × IsCursor edges (λ k. get_or t.left.items k 0 ≡ 0) 2 (get_or t.ends.last.items 2 0)
known_tables t has = (
  has.left_beside,
  has.ends,
  has.chains.last_beside,
  has.chains.before_beside,
  has.chains.below,
  has.chains.linked,
  has.chains.cursors 2 (omega arith),
)

-- a step keeps all that and brings the tour nearer to its end, where nothing is left
pub known_step : (old new : PartialTour) → StepsTour (path None None) old new (Ok true)
    → HasTourTables (path None None) new × (tour_rank (path None None) new < tour_rank (path None None) old)
    × (IsPartialTour (path None None) (0 ∷ 2 ∷ []) old → IsPartialTour (path None None) (0 ∷ 2 ∷ []) new)
known_step old new steps = (steps.ready, steps.less, λ is. steps.keeps (0 ∷ 2 ∷ []) is)

pub known_finished : (old new : PartialTour) → StepsTour (path None None) old new (Ok false)
    → (new.out.items ≡ []) × (remaining_ends edges new.left.items new.at ≡ 0)
    × (IsPartialTour (path None None) (0 ∷ 2 ∷ []) old → IsPartialTour (path None None) (0 ∷ 2 ∷ []) new)
known_finished old new steps = (steps.empty, steps.stuck, λ is. steps.keeps (0 ∷ 2 ∷ []) is)

pub known_rank : (t : PartialTour) → t.left.items ≡ 1 ∷ 2 ∷ [] → t.out.items ≡ 3 ∷ [] → t.ends.last.items ≡ 1 ∷ 3 ∷ 4 ∷ []
    → tour_rank (path None None) t ≡ 15
known_rank t left out last = rw (left, out, last) refl

-- before the first pass nothing is walked, and the first line remains
pub known_empty : (t : PartialTour) → IsEmptyTour (path None None) t
    → HasTourTables (path None None) t × (t.home ≡ []) × (t.out.items ≡ []) × (1 ≤ get_or t.left.items 0 0)
known_empty t is = (is.ready, is.home, is.out, is.some)

pub known_begun : (old new : PartialTour) → BeginsTour (path None None) old new
    → IsTourInvariantOf (path None None) (0 ∷ 2 ∷ []) old → IsPartialTour (path None None) (0 ∷ 2 ∷ []) new
known_begun old new begins is = begins (0 ∷ 2 ∷ []) is
