-- Fitting of a design into a hoop. Lengths are in whole tenths of a millimetre. Own rule: jumps do
-- not count, and a design that fits either way is upright.
use Rattle.std.specs.Prelude.{ℕ, ◌-◌, ◌&&◌, nat_le, if◌then◌else◌}
use Rattle.design_model.specs.Designs.{DesignValue}
use Rattle.design_model.specs.Extents.{extent_of, extent_height, extent_width}
use Rattle.hoop_check.specs.declared.fitting.Fit.{Fit}
use Rattle.hoop_check.specs.declared.fitting.Fit.TheVariants as fit

-- The fit of a width and a height in a hoop of w by h: upright, else turned by a quarter, else
-- none. Without a fit it has the excess over w and over h.
abbrev pub fit_of_size : ℕ → ℕ → ℕ → ℕ → Fit
fit_of_size width height w h =
    if nat_le width w && nat_le height h then fit.Upright
    else if nat_le width h && nat_le height w then fit.Turned
    else fit.No (width - w) (height - h)

-- The fit of a design in a hoop of w by h.
abbrev pub fit_of : DesignValue → ℕ → ℕ → Fit
fit_of d w h = fit_of_size (extent_width (extent_of d)) (extent_height (extent_of d)) w h
