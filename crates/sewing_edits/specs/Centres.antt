-- Centred designs. The middle and its rounding are those of a centred drawing.
use Rattle.design_model.specs.declared.point.Point.{Point}
use Rattle.design_model.specs.Designs.{DesignValue}
use Rattle.design_model.specs.Extents.{extent_of}
use Rattle.drawing_edits.specs.MovedDrawings.{middle_of}

-- The middle of the extent of a design's needles.
abbrev pub middle_of_needles : DesignValue → Point
middle_of_needles d = middle_of (extent_of d)
