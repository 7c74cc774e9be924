use Rattle.thumbnails.specs.declared.lit_points.TheConstants.{CELLS}
use Rattle.thumbnails.proofs.LitLemmas.{none_lit}
use Rattle.thumbnails.proofs.lit_points.LitPoints.new.Goals as goal

pub returns : goal.returns
returns c = none_lit CELLS c.in_ok-cells.cells.items (c.in_ok-cells.ensures.items_if_clones_equal (λ y h. h))
