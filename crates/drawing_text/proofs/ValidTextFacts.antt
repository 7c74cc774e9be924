-- Drawings that aren't valid, and that no text describes therefore.
use Rattle.std.proofs.Common.{◌≡◌, pos, true, false, ◌⊎◌, inl, inr, [], ◌∷◌, arith}
use Rattle.drawing_text.proofs.Names.{lines_through, DrawingValue, HasNoEnds, IsValidDrawing, are_connected_spots, default_drawing, is_joined}
use Rattle.drawing_text.proofs.CanonicalTextFacts.{place}
use Rattle.drawing_text.proofs.EndTextFacts.{crossed, spot}

-- a drawing has a block
pub known_no_block : IsValidDrawing default_drawing → ⊥
known_no_block is = omega (arith, is.limits.blocks_from)

-- a piece has one start
pub known_two_starts : IsValidDrawing (crossed (spot 0 0 ∷ spot 20 0 ∷ []) []) → ⊥
known_two_starts is = absurd (both_are (is.ends.starts.apart 0 1 (spot 0 0) (omega arith) (omega arith)))
  where
    both_are : are_connected_spots (crossed [] []).lines (spot 0 0) (spot 20 0) ≡ false → ⊥
    both_are apart = cc

-- only a piece of a joined drawing has a start
abbrev uncut : DrawingValue
uncut = record (crossed (spot 20 0 ∷ []) []) {
  lines = lines_through 0 ((place (pos 0) (pos 0) ∷ place (pos 10) (pos 0) ∷ place (pos 20) (pos 0) ∷ [])
      ∷ (place (pos 10) (pos 5) ∷ place (pos 10) (pos 0) ∷ []) ∷ []);
}

pub known_unjoined : IsValidDrawing uncut → ⊥
known_unjoined is = by_joined is.ends.joined
  where
    by_joined : HasNoEnds uncut ⊎ (is_joined uncut ≡ true) → ⊥
    by_joined (inl none) = let starts = none.starts in cc
    by_joined (inr joined) = cc
