-- Sizes of moves, and needle points as limits on each axis.
use Rattle.std.proofs.Common.{◌≢◌, ◌≤◌, arith}
use Rattle.step_splitter.proofs.Names.{nat_tests, le-max_left, le-max_right, Point, move_between, move_size, same_point}
use Rattle.design_model.proofs.ListLemmas.{no_difference}

-- the move between two points that differ has a size
pub size_some : (p q : Point) → p ≢ q → 1 ≤ move_size (move_between p q)
size_some p q differ = grind (arith, nat_tests, le-max_left, le-max_right, same_point, no_difference)
