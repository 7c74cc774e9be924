-- Scaled coordinates.
use Rattle.std.proofs.Common.{◌≡◌, ℕ, ℤ, pos, ◌+◌, ◌*◌, ◌/◌, ◌≤◌, int_lt, unsigned_abs, Bool, true, false, refl, sym, ap, arith}
use Rattle.design_model.specs.WholeNumbers.{signed_number}
use Rattle.design_model.proofs.ListLemmas.{size-neg}
use Rattle.sewing_edits.specs.Scales.{IsNearestScale, scaled_coordinate, scaled_size}

-- the sign makes no difference to the size
signed_size : (minus : Bool) (size : ℕ) → unsigned_abs (signed_number minus size) ≡ size
signed_size true size = size-neg (pos size)
signed_size false size = refl

near_low : (m : ℕ) → m ≤ 100 * ((m + 50) / 100) + 50
near_low m = omega arith

near_high : (m : ℕ) → 100 * ((m + 50) / 100) ≤ m + 50
near_high m = omega arith

pub nearest : (percent : ℕ) (z : ℤ) → IsNearestScale percent z (scaled_coordinate percent z)
nearest percent z =
    let size : ℕ = scaled_size percent (unsigned_abs z) in
    let is : unsigned_abs (scaled_coordinate percent z) ≡ size = signed_size (int_lt z (pos 0)) size in
    let low = near_low (unsigned_abs z * percent) in
    let high = near_high (unsigned_abs z * percent) in
    record {
      least = omega (arith, is, low);
      most = omega (arith, is, high);
      sign = ap (signed_number (int_lt z (pos 0))) (sym is);
    }
