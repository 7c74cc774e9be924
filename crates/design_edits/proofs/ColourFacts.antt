-- Worked values of places and threads.
use Rattle.std.proofs.Common.{◌≡◌, ℕ, List, [], ◌∷◌, ◌++◌, replicate, refl}
use Rattle.design_edits.proofs.Names.{Stop, DesignValue, colour_place_count, recoloured}

-- A design with those threads and n stops.
abbrev pub stopping : List ℕ → ℕ → DesignValue
stopping threads stops = record { label = []; threads = threads; commands = replicate stops Stop }

-- one place more than stops, and no more than 255
pub known_colour_place_count : (colour_place_count (stopping [] 3) ≡ 4)
    × (colour_place_count (stopping [] 260) ≡ 255)
known_colour_place_count = (refl, refl)

-- the threads before the place are kept as they are: those of the second and third block are 2 and 3
pub known_recoloured : (recoloured 3 7 (stopping (9 ∷ []) 3) ≡ stopping (9 ∷ 2 ∷ 3 ∷ 7 ∷ []) 3)
    -- A stored number is changed, and those after it are unchanged.
    × (recoloured 1 7 (stopping (9 ∷ 8 ∷ 6 ∷ []) 3) ≡ stopping (9 ∷ 7 ∷ 6 ∷ []) 3)
    -- the thread of the 65th block is 1 again
    × (recoloured 65 7 (stopping (replicate 64 5) 65) ≡ stopping (replicate 64 5 ++ 1 ∷ 7 ∷ []) 65)
known_recoloured = (refl, refl, refl)
