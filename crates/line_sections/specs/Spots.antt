-- Spots: points in colour blocks.
use Rattle.std.specs.Prelude.{◌==◌, ◌&&◌, Bool}
use Rattle.design_model.specs.Points.{is_same_point}
use Rattle.line_sections.specs.declared.spot.Spot.{Spot}

-- Two spots are equal: they have equal blocks and equal points.
abbrev pub is_same_spot : Spot → Spot → Bool
is_same_spot a b = a.block == b.block && is_same_point a.at b.at
