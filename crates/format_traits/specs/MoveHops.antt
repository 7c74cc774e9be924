-- The number of hops that a move of the hoop takes within a limit. Tenths of a millimetre.
use Rattle.std.specs.Prelude.{ℕ, ◌+◌, ◌-◌, ◌/◌}
use Rattle.design_model.specs.declared.point.Point.{Point}
use Rattle.design_model.specs.Points.{move_size}

-- The least number of moves within the limit that make up a move.
abbrev pub hops_of : ℕ → Point → ℕ
hops_of limit m = (move_size m + (limit - 1)) / limit
