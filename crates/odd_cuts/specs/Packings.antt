-- Packings of odd cuts, after J. Edmonds and E. L. Johnson, "Matching, Euler tours and the Chinese
-- postman", Mathematical Programming 5 (1973). Weights and loads count halves of a step, costs
-- count steps.
use Rattle.std.specs.Prelude.{◌≡◌, ℕ, ◌*◌, ◌%◌, ◌<◌, ◌≤◌, true, List, length, All, count_by}
use Rattle.odd_cuts.specs.declared.cut.Cut.{Cut}
use Rattle.odd_cuts.specs.Cuts.{has_member, load_on}
use Rattle.line_graph.specs.declared.edge.Edge.{Edge}
use Rattle.line_graph.specs.PieceGraphs.{PieceValue, odd_junctions}
use Rattle.line_graph.specs.PieceWalks.{is_strictly_increasing}

-- The number of odd junctions of a piece that are members; a member that is listed twice counts
-- once.
abbrev pub odd_held : PieceValue → List ℕ → ℕ
odd_held p members = count_by (has_member members) (odd_junctions p)

-- A set of junctions of a piece that holds an odd number of odd junctions.
pub record IsOddCut (p : PieceValue) (cut : Cut) : Type 0 where
  pub there : All (λ j. j < length p.junctions) cut.members
  pub odd : odd_held p cut.members % 2 ≡ 1

-- A packing: every cut is odd, and no load exceeds two halves for each step of the line.
pub record IsPacking (p : PieceValue) (cuts : List Cut) : Type 0 where
  pub odd : All (IsOddCut p) cuts
  pub loads : All (λ (e : Edge). load_on cuts e ≤ 2 * e.cost) p.edges

-- A cut with a weight of at least 1, whose members rise.
pub record IsPlainCut (cut : Cut) : Type 0 where
  pub heavy : 1 ≤ cut.weight
  pub rising : is_strictly_increasing cut.members ≡ true
