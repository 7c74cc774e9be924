-- Moves of the hoop, and their division into equal parts. Tenths of a millimetre.
use Rattle.std.specs.Prelude.{ℕ, zero, suc, ◌+◌, pos, ◌+ℤ◌, ◌*ℤ◌, List, [], ◌∷◌}
use Rattle.std.specs.Int.{int_div_euclid}
use Rattle.design_model.specs.declared.point.Point.{Point}
use Rattle.design_model.specs.Points.{move_between}

-- The position after a move.
abbrev pub position_after_move : Point → Point → Point
position_after_move place m = record { x = place.x +ℤ m.x; y = place.y +ℤ m.y }

-- The point where the first `count` of n equal parts of a move end, rounded down on each axis.
abbrev pub part_end : Point → ℕ → ℕ → Point
part_end m n count = record {
  x = int_div_euclid (pos count *ℤ m.x) (pos n);
  y = int_div_euclid (pos count *ℤ m.y) (pos n);
}

-- The moves of `count` of the n equal parts of a move, after the first `done` parts.
abbrev pub part_moves_from : Point → ℕ → ℕ → ℕ → List Point
part_moves_from m n done zero = []
part_moves_from m n done (suc count) =
    move_between (part_end m n done) (part_end m n (done + 1)) ∷ part_moves_from m n (done + 1)
    count

-- The moves of the n equal parts of a move.
abbrev pub part_moves : Point → ℕ → List Point
part_moves m n = part_moves_from m n 0 n
