-- Worked values of odd junctions, rows and paths.
use Rattle.std.proofs.Common.{◌≡◌, ℕ, pos, ◌<◌, Bool, true, List, [], ◌∷◌, Option, Some, None, refl, arith}
use Rattle.odd_paths.proofs.Names.{All-cons, All-nil, Edge, Pass, PieceValue, odd_junctions, piece_cost, walk_cost, walk_end_from, odds_from, IsPath, RowsValue, cost_at, terminal_of, lines_at_indexes, row_length}
use Rattle.design_model.specs.declared.point.Point.{Point}

abbrev place : ℕ → Point
place x = record { x = pos x; y = pos 0 }

abbrev edge : ℕ → ℕ → ℕ → Edge
edge a b cost = record { a = a; b = b; cost = cost }

abbrev pass : ℕ → Bool → Pass
pass line back = record { line = line; back = back }

-- the lines 4 and 7 lead from junction 0 over 1 to 2
abbrev pub path : Option ℕ → Option ℕ → PieceValue
path start end = record {
  block = 0;
  lines = 4 ∷ 7 ∷ [];
  junctions = place 0 ∷ place 3 ∷ place 8 ∷ [];
  edges = edge 0 1 3 ∷ edge 1 2 5 ∷ [];
  degrees = 1 ∷ 2 ∷ 1 ∷ [];
  start = start;
  end = end;
}

-- three lines between two junctions, one of them the other way
abbrev theta : Option ℕ → Option ℕ → PieceValue
theta start end = record {
  block = 0;
  lines = 0 ∷ 1 ∷ 2 ∷ [];
  junctions = place 0 ∷ place 3 ∷ [];
  edges = edge 0 1 4 ∷ edge 0 1 6 ∷ edge 1 0 9 ∷ [];
  degrees = 3 ∷ 3 ∷ [];
  start = start;
  end = end;
}

-- three lines from one junction
abbrev star : Option ℕ → Option ℕ → PieceValue
star start end = record {
  block = 0;
  lines = 1 ∷ 2 ∷ 5 ∷ [];
  junctions = place 0 ∷ place 1 ∷ place 2 ∷ place 3 ∷ [];
  edges = edge 0 1 1 ∷ edge 0 2 2 ∷ edge 3 0 3 ∷ [];
  degrees = 3 ∷ 1 ∷ 1 ∷ 1 ∷ [];
  start = start;
  end = end;
}

pub known_odd_junctions : (odd_junctions (path None None) ≡ 0 ∷ 2 ∷ [])
    × (odd_junctions (theta None None) ≡ 0 ∷ 1 ∷ [])
    × (odd_junctions (star None None) ≡ 0 ∷ 1 ∷ 2 ∷ 3 ∷ [])
    -- a start and an end that differ change from odd to even, or back
    × (odd_junctions (path (Some 0) (Some 1)) ≡ 1 ∷ 2 ∷ [])
    × (odd_junctions (theta (Some 1) (Some 0)) ≡ [])
    × (odd_junctions (star (Some 1) (Some 2)) ≡ 0 ∷ 3 ∷ [])
    -- a single required junction is both start and end, and nothing changes
    × (odd_junctions (star (Some 1) None) ≡ 0 ∷ 1 ∷ 2 ∷ 3 ∷ [])
    × (odd_junctions (theta None (Some 1)) ≡ 0 ∷ 1 ∷ [])
known_odd_junctions = (refl, refl, refl, refl, refl, refl, refl, refl)

-- the degrees give the same junctions
pub known_odds_from : (odds_from (Some 0) (Some 1) 0 (1 ∷ 2 ∷ 1 ∷ []) ≡ 1 ∷ 2 ∷ [])
    × (odds_from None None 0 (3 ∷ 1 ∷ 1 ∷ 1 ∷ []) ≡ 0 ∷ 1 ∷ 2 ∷ 3 ∷ [])
known_odds_from = (refl, refl)

-- the rows of the path's odd junctions
abbrev ends : RowsValue
ends = record { terminals = 0 ∷ 2 ∷ []; table = (0 ∷ 3 ∷ 8 ∷ []) ∷ (8 ∷ 5 ∷ 0 ∷ []) ∷ [] }

pub known_costs : (cost_at ends 0 1 ≡ 3) × (cost_at ends 0 2 ≡ 8) × (cost_at ends 1 1 ≡ 5) × (cost_at ends 1 2 ≡ 0)
known_costs = (refl, refl, refl, refl)

-- a row or a junction that isn't there
pub known_no_costs : (cost_at ends 2 1 ≡ 0) × (cost_at ends 0 3 ≡ 0) × (row_length ends 1 ≡ 3) × (row_length ends 2 ≡ 0)
known_no_costs = (refl, refl, refl, refl)

pub known_terminals : (terminal_of ends 0 ≡ 0) × (terminal_of ends 1 ≡ 2)
known_terminals = (refl, refl)

pub known_piece_cost : (piece_cost (theta None None) ≡ 19)
    × (lines_at_indexes (path None None) (1 ∷ 0 ∷ 1 ∷ []) ≡ 7 ∷ 4 ∷ 7 ∷ [])
known_piece_cost = (refl, refl)

-- from the far end back to the first junction; the reversed indexes are no walk
abbrev home : List Pass
home = pass 7 true ∷ pass 4 true ∷ []

pub known_path : IsPath (path None None) 2 0 8 (1 ∷ 0 ∷ [])
known_path = record {
  there = All-cons (λ k. k < 2) 1 (0 ∷ []) (omega arith) (All-cons (λ k. k < 2) 0 [] (omega arith) (All-nil (λ k. k < 2)));
  walk = home;
  leads = refl;
  along = refl;
  costs = refl;
}

pub known_astray : (walk_end_from (4 ∷ 7 ∷ []) (path None None).edges (Some 2) (pass 4 true ∷ pass 7 true ∷ []) ≡ None)
    × (walk_cost (star None None) (pass 1 true ∷ pass 5 true ∷ []) ≡ 4)
known_astray = (refl, refl)
