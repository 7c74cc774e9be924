-- Worked values of what touches.
use Rattle.std.proofs.Common.{◌≡◌, ℕ, true, false, [], ◌∷◌, refl}
use Rattle.line_graph.proofs.Names.{Point, LineValue, touches}
use Rattle.line_graph.proofs.WalkFacts.{at}

-- a line of three points in a block
abbrev bent : ℕ → Point → Point → Point → LineValue
bent block p q r = record { block = block; points = p ∷ q ∷ r ∷ [] }

-- lines touch at an end of both, in one block; a point inside a line is no end
pub known_touches : (touches (bent 0 (at 0 0) (at 1 1) (at 2 0)) (bent 0 (at 2 0) (at 3 3) (at 4 0)) ≡ true)
    × (touches (bent 0 (at 0 0) (at 1 1) (at 2 0)) (bent 1 (at 2 0) (at 3 3) (at 4 0)) ≡ false)
    × (touches (bent 0 (at 0 0) (at 1 1) (at 2 0)) (bent 0 (at 1 1) (at 3 3) (at 4 0)) ≡ false)
    -- an end in common is one whichever way the lines are drawn
    × (touches (bent 3 (at 0 0) (at 1 1) (at 2 0)) (bent 3 (at 4 0) (at 3 3) (at 0 0)) ≡ true)
    -- lines that cross do not touch, not even where both have a point
    × (touches (bent 0 (at 0 0) (at 1 0) (at 20 20)) (bent 0 (at 20 0) (at 1 20) (at 0 20)) ≡ false)
    × (touches (bent 0 (at 0 0) (at 10 10) (at 20 20)) (bent 0 (at 20 0) (at 10 10) (at 0 20)) ≡ false)
    -- a closed line touches what ends where it begins, and not what ends at another of its points
    × (touches (bent 0 (at 5 0) (at 9 9) (at 5 0)) (bent 0 (at 0 0) (at 1 0) (at 5 0)) ≡ true)
    × (touches (bent 0 (at 5 0) (at 9 9) (at 5 0)) (bent 0 (at 0 0) (at 1 0) (at 9 9)) ≡ false)
known_touches = (refl, refl, refl, refl, refl, refl, refl, refl)
