-- The invariant of the type `Piece`. Costs count steps.
use Rattle.std.specs.Prelude.{◌≡◌, ℕ, ◌+◌, ◌<◌, ◌≤◌, ◌&&◌, Bool, true, false, List, [], ◌∷◌, Option, Some, None, length, nat_le, nat_lt, slice_get, AllPairs}
use Rattle.design_model.specs.Points.{is_same_point}
use Rattle.line_graph.specs.declared.edge.Edge.{Edge}
use Rattle.line_graph.specs.declared.limits.TheConstants.{MAX_COST, MAX_LINES}
use Rattle.line_graph.specs.PieceGraphs.{PieceValue, degree, degrees_from}
use Rattle.line_graph.specs.PieceWalks.{piece_cost, is_strictly_increasing}

-- All numbers of a list are less than n.
abbrev pub all_below : ℕ → List ℕ → Bool
all_below n [] = true
all_below n (m ∷ rest) = nat_lt m n && all_below n rest

-- Both junctions of each edge have a number less than n.
abbrev pub ends_below : ℕ → List Edge → Bool
ends_below n [] = true
ends_below n (e ∷ rest) = (nat_lt e.a n && nat_lt e.b n) && ends_below n rest

-- Each edge costs at least one step.
abbrev pub all_costs_positive : List Edge → Bool
all_costs_positive [] = true
all_costs_positive (e ∷ rest) = nat_le 1 e.cost && all_costs_positive rest

-- An optional number j is less than n, or absent.
abbrev pub is_below : ℕ → Option ℕ → Bool
is_below n None = true
is_below n (Some j) = nat_lt j n

-- No edge leads from a set of junctions to a junction outside it.
abbrev pub NoEdgeLeaves : List Edge → (ℕ → Bool) → Type 0
NoEdgeLeaves edges set = (i : ℕ) (e : Edge) → slice_get edges i ≡ Some e → set e.a ≡ set e.b

-- A connected graph: a set of junctions that no edge leaves contains all junctions or none.
abbrev pub IsConnectedGraph : List Edge → ℕ → Type 0
IsConnectedGraph edges count = (set : ℕ → Bool) → NoEdgeLeaves edges set
    → (i j : ℕ) → i < count → j < count → set i ≡ set j

-- A valid piece: a connected graph without edges of cost 0, within the limits of a drawing.
pub record IsValidPiece (p : PieceValue) : Type 0 where
  pub some : 1 ≤ length p.lines
  pub few : length p.lines ≤ MAX_LINES
  pub beside : length p.lines ≡ length p.edges
  pub rising : is_strictly_increasing p.lines ≡ true
  pub lines_below : all_below MAX_LINES p.lines ≡ true
  pub different : AllPairs (λ a b. is_same_point a b ≡ false) p.junctions
  pub junctions_few : length p.junctions ≤ length p.lines + 1
  pub ends : ends_below (length p.junctions) p.edges ≡ true
  pub met : (j : ℕ) → j < length p.junctions → 1 ≤ degree p.edges j
  pub joined : IsConnectedGraph p.edges (length p.junctions)
  pub counted : p.degrees ≡ degrees_from p.edges 0 (length p.junctions)
  pub costs : all_costs_positive p.edges ≡ true
  pub cost_few : piece_cost p ≤ MAX_COST
  pub start_below : is_below (length p.junctions) p.start ≡ true
  pub end_below : is_below (length p.junctions) p.end ≡ true
