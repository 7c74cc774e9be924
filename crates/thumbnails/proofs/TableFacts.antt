-- Worked points of tables, by hand.
use Rattle.std.proofs.Common.{◌≡◌, true, false, List, [], ◌∷◌, map, refl}
use Rattle.std.specs.Prelude.{Bool, ◌*◌, replicate, set}
use Rattle.thumbnails.specs.declared.lit_points.TheConstants.{CELLS, SIDE}
use Rattle.thumbnails.specs.declared.lit_points.ThumbPoint.{ThumbPoint}
use Rattle.thumbnails.specs.LitPoints.{between_steps, points_in_cells}

-- 48 columns and room for as many rows
pub known_sizes : (SIDE ≡ 48) × (CELLS ≡ 48 * 48)
known_sizes = (refl, refl)

-- two rows, of which the third point of the second is lit
abbrev cells : List Bool
cells = set (replicate 96 false) 50 true

-- by column and row: beside it, above it, beyond the columns and beyond the rows there is none
pub known_points : map (points_in_cells cells) (record { column = 2; row = 1 } ∷ record { column = 1; row = 1 }
    ∷ record { column = 2; row = 0 } ∷ record { column = 50; row = 0 } ∷ record { column = 2; row = 9 } ∷ [])
    ≡ true ∷ false ∷ false ∷ false ∷ false ∷ []
known_points = refl

-- a point beyond the last column is in it, and so is a line of no step
pub known_within : (between_steps 0 0 60 60 ≡ 47) × (between_steps 2 2 40 60 ≡ 47) × (between_steps 2 1 40 43 ≡ 42)
known_within = (refl, refl, refl)
