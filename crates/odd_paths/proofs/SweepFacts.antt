-- Worked values of sweeps, last edges and columns.
use Rattle.std.proofs.Common.{◌≡◌, ℕ, true, false, List, [], ◌∷◌, Some, None, refl}
use Rattle.odd_paths.proofs.Names.{Edge, NO_WALK, lane_column, terminal_columns, weight, last_edge_from, edge_walk_cost, changes, lowered_row, swept, relaxed_cost}

abbrev edge : ℕ → ℕ → ℕ → Edge
edge a b cost = record { a = a; b = b; cost = cost }

-- from junction 0 over 1 to 2, and the same with the far edge first and the near one turned
abbrev forth : List Edge
forth = edge 0 1 3 ∷ edge 1 2 5 ∷ []

abbrev back : List Edge
back = edge 1 2 5 ∷ edge 1 0 3 ∷ []

-- in good order one sweep is enough, else each sweep goes one edge further
pub known_sweep : swept (0 ∷ NO_WALK ∷ NO_WALK ∷ []) forth ≡ 0 ∷ 3 ∷ 8 ∷ []
known_sweep = refl

pub known_sweeps : (swept (0 ∷ NO_WALK ∷ NO_WALK ∷ []) back ≡ 0 ∷ 3 ∷ NO_WALK ∷ []) × (swept (0 ∷ 3 ∷ NO_WALK ∷ []) back ≡ 0 ∷ 3 ∷ 8 ∷ [])
known_sweeps = (refl, refl)

pub known_changes : (changes (0 ∷ 3 ∷ NO_WALK ∷ []) back ≡ true) × (changes (0 ∷ 3 ∷ 8 ∷ []) back ≡ false)
known_changes = (refl, refl)

-- an equal cost lowers nothing
pub known_lowered : (lowered_row (2 ∷ 9 ∷ []) 0 1 6 ≡ 2 ∷ 8 ∷ []) × (lowered_row (2 ∷ 9 ∷ []) 0 1 7 ≡ 2 ∷ 9 ∷ [])
known_lowered = (refl, refl)

-- the last edge of a walk, and its other end; there is none for the terminal
pub known_last : (last_edge_from (0 ∷ 3 ∷ 8 ∷ []) 2 0 forth ≡ Some (1, 1)) × (last_edge_from (0 ∷ 3 ∷ 8 ∷ []) 1 0 back ≡ Some (1, 0))
    × (last_edge_from (0 ∷ 3 ∷ 8 ∷ []) 0 0 back ≡ None)
known_last = (refl, refl, refl)

pub known_place_cost : edge_walk_cost forth (1 ∷ 0 ∷ 1 ∷ []) ≡ 13
known_place_cost = refl

-- two lanes of three numbers
abbrev lanes : List (List ℕ)
lanes = (1 ∷ 2 ∷ 3 ∷ []) ∷ (4 ∷ 5 ∷ 6 ∷ []) ∷ []

pub known_columns : (lane_column 1 lanes ≡ 2 ∷ 5 ∷ []) × (terminal_columns lanes 1 (7 ∷ 9 ∷ []) ≡ (2 ∷ 5 ∷ []) ∷ (3 ∷ 6 ∷ []) ∷ [])
known_columns = (refl, refl)

pub known_weight : weight lanes ≡ 21
known_weight = refl

pub known_lesser : (relaxed_cost (1 ∷ 4 ∷ []) (6 ∷ 9 ∷ []) 4 0 ≡ 5) × (relaxed_cost (1 ∷ 4 ∷ []) (6 ∷ 7 ∷ []) 4 1 ≡ 7)
known_lesser = (refl, refl)
