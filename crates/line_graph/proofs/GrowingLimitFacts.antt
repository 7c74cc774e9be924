-- Drawings that aren't growing ones: an earlier block has no line, or there is a start.
use Rattle.std.proofs.Common.{◌≡◌, ℕ, zero, suc, pos, Contains, [], ◌∷◌, arith}
use Rattle.line_graph.proofs.DrawingNames.{DrawingValue, empty_drawing, IsGrowingDrawing, step_count}
use Rattle.line_graph.proofs.Places.{place}

-- two blocks, of which only the second has a line
abbrev gap : DrawingValue
gap = record (empty_drawing [] 7) {
  threads = 3 ∷ 8 ∷ [];
  lines = record { block = 1; points = place (pos 4) (pos 2) ∷ place (pos 6) (pos 2) ∷ [] } ∷ [];
}

pub known_gap : IsGrowingDrawing gap → ⊥
known_gap is = none_there (is.blocks.used 0 (omega arith))
  where
    none_there : Contains {X = ℕ} (1 ∷ []) 0 → ⊥
    none_there (zero, there, is) = absurd cc
    none_there (suc i, there, is) = omega (arith, there)

-- lines of more than 200,000 steps
pub known_long : (d : DrawingValue) → IsGrowingDrawing d → step_count d.step d.lines ≡ 200001 → ⊥
known_long d is long = omega (arith, long, is.lines.cost)

-- a start
abbrev started : DrawingValue
started = record (empty_drawing [] 7) { starts = record { block = 0; at = place (pos 4) (pos 2) } ∷ [] }

pub known_started : IsGrowingDrawing started → ⊥
known_started is = absurd (none_there is.no_ends.starts)
  where
    none_there : started.starts ≡ [] → ⊥
    none_there none = cc
