-- How often a stitch was sewn before: the passes between its two needle points.
use Rattle.std.specs.Prelude.{ℕ, ◌+◌, ◌&&◌, Bool, min, if◌then◌else◌}
use Rattle.design_model.specs.Points.{is_same_point}
use Rattle.design_picture.specs.declared.links.PointPair.{PointPair}
use Rattle.design_picture.specs.declared.links.TheConstants.{MAX_PASSES}

-- Two stitches have the same needle points in the same order.
abbrev pub is_same_stitch : PointPair → PointPair → Bool
is_same_stitch a b = is_same_point a.from b.from && is_same_point a.to b.to

-- A stitch in the opposite direction.
abbrev pub turned_stitch : PointPair → PointPair
turned_stitch stitch = record { from = stitch.to; to = stitch.from }

-- A number of passes and one more, as far as they are distinguished.
abbrev pub one_more : ℕ → ℕ
one_more passes = min (passes + 1) MAX_PASSES

-- How often a stitch was sewn before, in either direction, by the passes of each.
abbrev pub earlier_passes : (PointPair → ℕ) → PointPair → ℕ
earlier_passes passes stitch = passes stitch + passes (turned_stitch stitch)

-- The passes of each stitch after one more.
abbrev pub passes_with : (PointPair → ℕ) → PointPair → PointPair → ℕ
passes_with passes stitch other =
    if is_same_stitch stitch other then one_more (passes stitch) else passes other
