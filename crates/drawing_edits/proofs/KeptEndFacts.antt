-- Worked values of what edits keep of starts and ends.
use Rattle.std.proofs.Common.{◌≡◌, ℕ, pos, List, [], ◌∷◌, false, arith, refl}
use Rattle.drawing_edits.proofs.Names.{DrawingValue, Spot, HasEndsOf, IsPlacedEnd, AreInBlockOrder, HasOrderedEnds, with_spot}

-- a spot of a block
abbrev spot_of : ℕ → ℕ → Spot
spot_of block x = record { block = block; at = record { x = pos x; y = pos 0 } }

-- a drawing without lines, with the given starts and ends
abbrev of_ends : List Spot → List Spot → DrawingValue
of_ends starts ends = record { label = []; step = 25; threads = []; lines = []; starts = starts; ends = ends }

-- a spot comes after those of its block, and before those of the next
pub known_with_spot : (with_spot (spot_of 1 5) (spot_of 0 1 ∷ spot_of 1 2 ∷ spot_of 2 3 ∷ [])
    ≡ spot_of 0 1 ∷ spot_of 1 2 ∷ spot_of 1 5 ∷ spot_of 2 3 ∷ [])
    -- a spot of the last block comes last
    × (with_spot (spot_of 2 5) (spot_of 0 1 ∷ spot_of 2 3 ∷ []) ≡ spot_of 0 1 ∷ spot_of 2 3 ∷ spot_of 2 5 ∷ [])
known_with_spot = (refl, refl)

-- a start that is lost isn't kept, nor is an end
pub known_start_lost : HasEndsOf (of_ends (spot_of 0 1 ∷ []) []) (of_ends [] []) → ⊥
known_start_lost is = let lost = is.starts in cc

pub known_end_lost : HasEndsOf (of_ends [] (spot_of 0 1 ∷ [])) (of_ends [] []) → ⊥
known_end_lost is = let lost = is.ends in cc

-- a start is lost where an end is placed
pub known_place_lost : IsPlacedEnd false (record { x = pos 9; y = pos 0 }) (of_ends (spot_of 0 1 ∷ []) []) (of_ends [] []) → ⊥
known_place_lost is = let lost = is.kept.starts in cc

-- blocks in another order
pub known_blocks_mixed : AreInBlockOrder (spot_of 1 0 ∷ spot_of 0 0 ∷ []) → ⊥
known_blocks_mixed rise = let falls = rise 0 1 0 (omega arith) (omega arith) in absurd (omega (arith, falls))

pub known_ends_mixed : HasOrderedEnds (of_ends [] (spot_of 1 0 ∷ spot_of 0 0 ∷ [])) → ⊥
known_ends_mixed is = let falls = is.ends 0 1 0 (omega arith) (omega arith) in absurd (omega (arith, falls))

pub known_starts_mixed : HasOrderedEnds (of_ends (spot_of 1 0 ∷ spot_of 0 0 ∷ []) []) → ⊥
known_starts_mixed is = let falls = is.starts 0 1 0 (omega arith) (omega arith) in absurd (omega (arith, falls))
