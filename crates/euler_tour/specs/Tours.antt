-- Tours: walks that pass each line of a piece once, and once more for each of its copies; after C.
-- Hierholzer, "Ueber die Möglichkeit, einen Linienzug ohne Wiederholung und ohne Unterbrechung zu
-- umfahren", Mathematische Annalen 6 (1873). Costs count steps.
use Rattle.std.specs.Prelude.{◌≡◌, ℕ, ◌+◌, ◌*◌, ◌%◌, ◌<◌, ◌==◌, ◌^◌, true, List, [], ◌∷◌, None, length, get_or, sum_by}
use Rattle.line_graph.specs.declared.edge.Edge.{Edge}
use Rattle.line_graph.specs.declared.pass.Pass.{Pass}
use Rattle.line_graph.specs.PieceGraphs.{PieceValue, one_if, closing_edge, degree, given_start, given_end}
use Rattle.line_graph.specs.Pieces.{first_line}
use Rattle.line_graph.specs.PieceWalks.{BeginsWith, covers, is_walk_start_to_end, passes, piece_cost, walk_cost}

-- The number of ends of passes at a junction, where each line is passed once and once more for each
-- copy.
abbrev pub pass_ends : List Edge → List ℕ → ℕ → ℕ
pass_ends [] copies j = 0
pass_ends (e ∷ edges) [] j = 0
pass_ends (e ∷ edges) (c ∷ copies) j = (c + 1) * (one_if (e.a == j) + one_if (e.b == j))
    + pass_ends edges copies j

-- The total cost of the copies.
abbrev pub copies_cost : List Edge → List ℕ → ℕ
copies_cost [] copies = 0
copies_cost (e ∷ edges) [] = 0
copies_cost (e ∷ edges) (c ∷ copies) = c * e.cost + copies_cost edges copies

-- The number of passes.
abbrev pub pass_count : List ℕ → ℕ
pass_count copies = sum_by (λ c. c + 1) copies

-- A tour exists: each junction has an even number of ends of passes, counting the closing line from
-- the end back to the start. The number of passes fits 32 bits.
pub record CanPass (p : PieceValue) (copies : List ℕ) : Type 0 where
  pub beside : length copies ≡ length p.lines
  pub even : (j : ℕ) → (degree (closing_edge (given_start p) (given_end p)) j
      + pass_ends p.edges copies j) % 2
      ≡ 0
  pub few : pass_count copies < 2 ^ 32

-- A fitting walk that passes each line once, and once more for each copy. Where no start and no end
-- is required, it begins with the first line, forwards.
pub record IsTour (p : PieceValue) (copies : List ℕ) (walk : List Pass) : Type 0 where
  pub led : is_walk_start_to_end p walk ≡ true
  pub covered : covers p.lines walk ≡ true
  pub counts : (k : ℕ) → k < length p.lines → passes (get_or p.lines k 0) walk
      ≡ get_or copies k 0 + 1
  pub begins : given_start p ≡ None → BeginsWith (first_line p.lines) walk
  pub costs : walk_cost p walk ≡ piece_cost p + copies_cost p.edges copies
  pub long : length walk ≡ pass_count copies
