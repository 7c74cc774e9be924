-- Worked values of the ends of lines, and of lines that remain.
use Rattle.std.proofs.Common.{◌≡◌, true, false, [], ◌∷◌, None, Some, refl, List}
use Rattle.euler_tour.proofs.Names.{remaining_ends, remaining_sum, decremented_at, one_of, pass_counts, junction_across, junction_at, pass_from, pass_to, Edge, edge_cost}
use Rattle.euler_tour.proofs.TourFacts.{edge, others_again}

-- a line from junction 4 to junction 7, one from there to junction 5
abbrev pub path : List Edge
path = edge 4 7 3 ∷ edge 7 5 10 ∷ []

-- the ends of the first line have the indexes 0 and 1, those of the second 2 and 3
pub known_junction_at : (junction_at path 0 ≡ Some 4)
    × (junction_at path 3 ≡ Some 5)
    × (junction_at path 4 ≡ None)
known_junction_at = (refl, refl, refl)

pub known_junction_across : (junction_across path 0 ≡ Some 7)
    × (junction_across path 3 ≡ Some 7)
known_junction_across = (refl, refl)

-- the pass that starts at the last end goes back along the second line, the one that ends there forth
pub known_pass_from : (pass_from (20 ∷ 31 ∷ []) 3 ≡ record { line = 31; back = true })
    × (pass_to (20 ∷ 31 ∷ []) 3 ≡ record { line = 31; back = false })
known_pass_from = (refl, refl)

-- an end of no line is one of line 0
pub known_absent : (pass_from (20 ∷ 31 ∷ []) 4 ≡ record { line = 0; back = false })
    × (pass_to (20 ∷ 31 ∷ []) 4 ≡ record { line = 0; back = true })
known_absent = (refl, refl)

-- what is left of lines and ends
pub known_times : (pass_counts others_again ≡ 1 ∷ 4 ∷ 3 ∷ [])
    × (decremented_at (1 ∷ 4 ∷ 3 ∷ []) 1 ≡ 1 ∷ 3 ∷ 3 ∷ [])
known_times = (refl, refl)

pub known_remaining_ends : (remaining_ends path (2 ∷ 1 ∷ []) 7 ≡ 3)
    × (remaining_ends path (2 ∷ 1 ∷ []) 4 ≡ 2)
known_remaining_ends = (refl, refl)

pub known_remaining_sum : (remaining_sum edge_cost path (2 ∷ 1 ∷ []) ≡ 16)
    × (remaining_sum one_of path (2 ∷ 1 ∷ []) ≡ 3)
known_remaining_sum = (refl, refl)
