-- Points and their ranges.
use Rattle.std.proofs.Common.{◌≡◌, ℕ, ◌≤◌, IsTrue, arith}
use Rattle.record_formats.proofs.Names.{ints, nat_tests, Point, is_point_within, origin, move_size, position_after_move, within_from}

-- a move whose size is at most the limit is within it
pub within-size : (limit : ℕ) (m : Point) → move_size m ≤ limit → IsTrue (is_point_within limit m)
within-size limit m small = within_from limit m (omega (arith, small)) (omega (arith, small))

pub position_after_move-none : (place : Point) → position_after_move place origin ≡ place
position_after_move-none place = grind (arith, nat_tests, ints)
