-- Partial tours: the state of Hierholzer's algorithm. The way out is its stack, and the walk home
-- is the tour.
use Rattle.std.specs.Prelude.{◌≡◌, ℕ, ◌+◌, ◌*◌, ◌%◌, ◌<◌, ◌≤◌, ◌==◌, ◌⊎◌, Bool, true, false, List, [], ◌∷◌, Option, Some, None, Result, Ok, Err, length, map, get_or, slice_get, sum_by}
use Rattle.design_model.specs.declared.memory.Memory.{Memory}
use Rattle.line_graph.specs.declared.edge.Edge.{Edge}
use Rattle.line_graph.specs.declared.pass.Pass.{Pass}
use Rattle.line_graph.specs.ValidPieces.{all_below}
use Rattle.line_graph.specs.PieceGraphs.{PieceValue, one_if, given_start, given_end}
use Rattle.line_graph.specs.Pieces.{first_line}
use Rattle.line_graph.specs.PieceWalks.{BeginsWith, pass_sum, passes, walk_end_from}
use Rattle.euler_tour.specs.RemainingLines.{remaining_ends, remaining_sum, one_of, pass_counts}
use Rattle.euler_tour.specs.Cursors.{AreCursors}
use Rattle.euler_tour.specs.LineEnds.{pass_from}
use Rattle.euler_tour.specs.declared.partial_tour.PartialTour.{PartialTour}

-- The junction where the first line starts.
abbrev pub first_edge_start : List Edge → ℕ
first_edge_start [] = 0
first_edge_start (e ∷ edges) = e.a

-- The junction where the first line ends.
abbrev pub first_edge_end : List Edge → ℕ
first_edge_end [] = 0
first_edge_end (e ∷ edges) = e.b

-- The given junction, else the start of the first line.
abbrev pub or_first_start : Option ℕ → List Edge → ℕ
or_first_start (Some j) edges = j
or_first_start None edges = first_edge_start edges

-- The junction where the walk home starts.
abbrev pub tour_start : PieceValue → ℕ
tour_start p = or_first_start (given_start p) p.edges

-- The junction where the walk home is to end; the way out starts there.
abbrev pub tour_end : PieceValue → ℕ
tour_end p = or_first_start (given_end p) p.edges

-- No line remains at a junction, or the junction is the required end or the present end of the walk
-- home.
abbrev pub IsExhausted : List Edge → List ℕ → ℕ → ℕ → ℕ → Type 0
IsExhausted edges left goal tail j = (remaining_ends edges left j ≡ 0) ⊎ ((j ≡ goal) ⊎ (j ≡ tail))

-- The invariant of a partial tour. The way out leads from the goal to `at`, the walk home from the
-- head to the tail. With the remaining lines they make up all passes.
pub record IsTourInvariant (lines : List ℕ) (edges : List Edge) (times left : List ℕ)
    (out home : List Pass)
    (head goal at tail : ℕ) : Type 0 where
  pub counted : (k : ℕ) → k < length lines
      → (passes (get_or lines k 0) out + passes (get_or lines k 0) home) + get_or left k 0
      ≡ get_or times k 0
  pub sums : (f : Edge → ℕ)
      → (pass_sum lines edges f out + pass_sum lines edges f home) + remaining_sum f edges left
      ≡ remaining_sum f edges times
  pub goes_out : walk_end_from lines edges (Some goal) out ≡ Some at
  pub goes_home : walk_end_from lines edges (Some head) home ≡ Some tail
  pub even : (j : ℕ) → ((remaining_ends edges left j + one_if (at == j)) + one_if (tail == j)) % 2
      ≡ 0
  pub done : (k : ℕ) (e : Edge) → slice_get edges k ≡ Some e → 1 ≤ passes (get_or lines k 0) home
      → IsExhausted edges left goal tail e.a × IsExhausted edges left goal tail e.b

-- The invariant of a partial tour over a piece.
abbrev pub IsTourInvariantOf : PieceValue → List ℕ → PartialTour → Type 0
IsTourInvariantOf p copies t =
    IsTourInvariant p.lines p.edges (pass_counts copies) t.left.items
    (map (pass_from p.lines) t.out.items)
    t.home (tour_start p) (tour_end p) t.at t.tail

-- A partial tour over a piece. Where no start and no end is required, the walk home begins with the
-- first line.
pub record IsPartialTour (p : PieceValue) (copies : List ℕ) (t : PartialTour) : Type 0 where
  pub keeps : IsTourInvariantOf p copies t
  pub begins : given_start p ≡ None → BeginsWith (first_line p.lines) t.home

-- Tables of the right lengths, a way out of line ends, and a cursor for each junction.
pub record AreTourTables (edges : List Edge) (count : ℕ) (left last before out : List ℕ) (at : ℕ)
    : Type 0 where
  pub left_beside : length left ≡ length edges
  pub ends : all_below (2 * length edges) out ≡ true
  pub chains : AreCursors edges count (λ k. get_or left k 0 ≡ 0) last before at

-- The tables of a partial tour fit the piece.
abbrev pub HasTourTables : PieceValue → PartialTour → Type 0
HasTourTables p t =
    AreTourTables p.edges (length p.junctions) t.left.items t.ends.last.items t.ends.before.items
    t.out.items t.at

-- The number that decreases with each step of a partial tour.
abbrev pub tour_rank : PieceValue → PartialTour → ℕ
tour_rank p t =
    (2 * remaining_sum one_of p.edges t.left.items + length t.out.items)
    + sum_by (λ n. n) t.ends.last.items

-- A partial tour stays a partial tour, for any copies.
abbrev pub KeepsPartialTour : PieceValue → PartialTour → PartialTour → Type 0
KeepsPartialTour p old new = (copies : List ℕ) → IsPartialTour p copies old
    → IsPartialTour p copies new

-- A partial tour without a pass, in which the first line remains.
pub record IsEmptyTour (p : PieceValue) (t : PartialTour) : Type 0 where
  pub ready : HasTourTables p t
  pub home : t.home ≡ []
  pub out : t.out.items ≡ []
  pub some : 1 ≤ get_or t.left.items 0 0

-- For any copies, the invariant of the old state makes the new state a partial tour.
abbrev pub BeginsTour : PieceValue → PartialTour → PartialTour → Type 0
BeginsTour p old new = (copies : List ℕ) → IsTourInvariantOf p copies old
    → IsPartialTour p copies new

-- A step of a partial tour was made.
pub record IsTourStep (p : PieceValue) (old new : PartialTour) : Type 0 where
  pub ready : HasTourTables p new
  pub keeps : KeepsPartialTour p old new
  pub less : tour_rank p new < tour_rank p old

-- A partial tour is finished: the way out is empty, and no line remains at the junction.
pub record IsTourFinished (p : PieceValue) (old new : PartialTour) : Type 0 where
  pub keeps : KeepsPartialTour p old new
  pub empty : new.out.items ≡ []
  pub stuck : remaining_ends p.edges new.left.items new.at ≡ 0

-- A step was made where the result is true; the tour is finished where it is false.
abbrev pub StepsTour : PieceValue → PartialTour → PartialTour → Result Bool Memory → Type 0
StepsTour p old new (Ok true) = IsTourStep p old new
StepsTour p old new (Ok false) = IsTourFinished p old new
StepsTour p old new (Err e) = Unit {0}
