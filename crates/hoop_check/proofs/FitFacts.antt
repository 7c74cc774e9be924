-- Worked values of fits.
use Rattle.std.proofs.Common.{◌≡◌, ℤ, pos, negsuc, [], ◌∷◌, refl}
use Rattle.design_model.specs.declared.command.Command.TheVariants.{Stitch, Jump}
use Rattle.design_model.specs.declared.point.Point.{Point}
use Rattle.design_model.specs.Designs.{DesignValue, empty_design}
use Rattle.hoop_check.specs.declared.fitting.Fit.TheVariants as fit
use Rattle.hoop_check.specs.Fits.{fit_of, fit_of_size}

-- the point with those numbers
abbrev pub at : ℤ → ℤ → Point
at x y = record { x = x; y = y }

-- a corner of 30 by 30, and a jump far away that takes no room
abbrev pub corner : DesignValue
corner = record empty_design {
  commands = Stitch (at (pos 0) (pos 0)) ∷ Stitch (at (pos 30) (pos 0)) ∷ Jump (at (pos 900) (pos 0))
      ∷ Stitch (at (pos 30) (pos 30)) ∷ [];
}

pub known_fit_of : (fit_of corner 30 30 ≡ fit.Upright)
    × (fit_of corner 20 25 ≡ fit.No 10 5)
known_fit_of = (refl, refl)

-- 30 by 0 fits into 10 by 30 if it is turned
pub known_fit_of_size : (fit_of_size 30 0 10 30 ≡ fit.Turned)
    -- only one of the two lengths is too large, and turning does not help
    × (fit_of_size 30 20 25 25 ≡ fit.No 5 0)
    × (fit_of_size 30 20 40 10 ≡ fit.No 0 10)
    -- turned, 30 by 20 is too wide for 10 by 40
    × (fit_of_size 30 20 10 40 ≡ fit.No 20 0)
known_fit_of_size = (refl, refl, refl, refl)

-- without a needle it fits into nothing
pub known_nothing : (fit_of empty_design 0 0 ≡ fit.Upright)
    -- numbers below zero: from -5 to 7 there are 12
    × (fit_of (record empty_design { commands = Stitch (at (negsuc 4) (pos 3)) ∷ Stitch (at (pos 7) (negsuc 0)) ∷ [] })
    11 4
    ≡ fit.No 1 0)
known_nothing = (refl, refl)
