-- Scaled designs: all points by a number of hundredths, about the origin. Own rule: coordinates are
-- rounded to the nearest tenth of a millimetre, and halves away from the origin.
use Rattle.std.specs.Prelude.{◌≡◌, ℕ, ℤ, pos, ◌+◌, ◌*◌, ◌/◌, ◌≤◌, int_lt, unsigned_abs, None, Some, Result, Ok, Err}
use Rattle.design_edits.specs.Moves.{first_out_of_range, with_mapped_points}
use Rattle.design_model.specs.declared.point.Point.{Point}
use Rattle.design_model.specs.Designs.{DesignValue}
use Rattle.design_model.specs.WholeNumbers.{signed_number}
use Rattle.sewing_edits.specs.declared.scales.ScaleFault.{ScaleFault}
use Rattle.sewing_edits.specs.declared.scales.ScaleFault.TheVariants as fault

-- A size by a number of hundredths, rounded to the nearest.
abbrev pub scaled_size : (percent size : ℕ) → ℕ
scaled_size percent size = (size * percent + 50) / 100

-- A coordinate by a number of hundredths: its size is scaled, and its sign stays.
abbrev pub scaled_coordinate : ℕ → ℤ → ℤ
scaled_coordinate percent z =
    signed_number (int_lt z (pos 0)) (scaled_size percent (unsigned_abs z))

-- A point by a number of hundredths, about the origin.
abbrev pub scale_point : ℕ → Point → Point
scale_point percent p = record {
  x = scaled_coordinate percent p.x;
  y = scaled_coordinate percent p.y;
}

-- A design with all points by a number of hundredths.
abbrev pub scaled : ℕ → DesignValue → DesignValue
scaled percent d = with_mapped_points (scale_point percent) d

-- The result of scaling: all points are in their ranges, or the fault names the first command whose
-- point is not, or out of memory.
abbrev pub IsScaleResult : ℕ → DesignValue → Result DesignValue ScaleFault → Type 0
IsScaleResult percent d (Ok new) = (first_out_of_range (scaled percent d).commands ≡ None)
    × (new ≡ scaled percent d)
IsScaleResult percent d (Err (fault.Range number)) =
    first_out_of_range (scaled percent d).commands ≡ Some number
IsScaleResult percent d (Err fault.Memory) = Unit {0}

-- A scaled coordinate keeps its sign, and lies within half a tenth of the exact one.
pub record IsNearestScale (percent : ℕ) (old new : ℤ) : Type 0 where
  pub least : percent * unsigned_abs old ≤ 100 * unsigned_abs new + 50
  pub most : 100 * unsigned_abs new ≤ percent * unsigned_abs old + 50
  pub sign : new ≡ signed_number (int_lt old (pos 0)) (unsigned_abs new)

-- Each coordinate is scaled to the nearest.
abbrev pub ScalesToNearest : Type 0
ScalesToNearest = (percent : ℕ) (z : ℤ) → IsNearestScale percent z (scaled_coordinate percent z)
