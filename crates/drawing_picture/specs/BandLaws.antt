-- What bands show of a packing. Weights and lengths count halves of a step.
use Rattle.std.specs.Prelude.{◌≡◌, ℕ, ◌*◌, ◌-◌, ◌<◌, ◌≤◌, List, filter, length, map, sum_by}
use Rattle.drawing_picture.specs.Bands.{Band, bands_on}
use Rattle.line_graph.specs.declared.edge.Edge.{Edge}
use Rattle.line_graph.specs.Drawings.{DrawingValue, KeepsDrawingLimits}
use Rattle.line_graph.specs.LineNeedles.{cost_of_line}
use Rattle.odd_cuts.specs.declared.cut.Cut.{Cut}
use Rattle.odd_cuts.specs.Cuts.{crosses, load_on}

-- The length of a band.
abbrev pub band_length : Band → ℕ
band_length band = length band.way - 1

-- The bands on a line show its load: each cut that the line leads out of has one band there, in
-- order, and no other cut has one. Each is as long as the weight of its cut, and together they are
-- as long as the load, which is at most twice the steps of the line.
pub record ShowsLoad (d : DrawingValue) (cuts : List Cut) (line : ℕ) (e : Edge) : Type 0 where
  pub each : map (λ (band : Band). band.cut) (bands_on d cuts line e)
      ≡ filter (λ (cut : Cut). crosses cut.members e) cuts
  pub weights : map band_length (bands_on d cuts line e)
      ≡ map (λ (cut : Cut). cut.weight) (filter (λ (cut : Cut). crosses cut.members e) cuts)
  pub load : sum_by band_length (bands_on d cuts line e) ≡ load_on cuts e
  pub room : sum_by band_length (bands_on d cuts line e) ≤ 2 * cost_of_line d line

-- The bands of cuts show the load on each line whose load is within two halves for each step, as
-- every load of a packing is.
abbrev pub BandsShowLoads : Type 0
BandsShowLoads = (d : DrawingValue) (cuts : List Cut) (line : ℕ) (e : Edge) → KeepsDrawingLimits d
    → line < length d.lines → load_on cuts e ≤ 2 * cost_of_line d line → ShowsLoad d cuts line e
