-- Lemmas that this crate and those above cite.
use Rattle.std.proofs.Common.{All, List, [], arith, unsigned_abs, ℕ, ℤ, ◌+◌, ◌-ℤ◌, ◌∷◌, ◌≤◌}
use Rattle.std.proofs.lemmas.List.Elements.{All-head, All-tail}
use Rattle.step_splitter.proofs.Names.{nat_tests, ints, within_parts, move_between, move_size, Point, IsNeedlePoint, last_point_or, max-le}

pub last_in_range : (p : Point) (rest : List Point) → IsNeedlePoint p → All IsNeedlePoint rest → IsNeedlePoint (last_point_or p rest)
last_in_range p [] one all = one
last_in_range p (q ∷ rest) one all = last_in_range q rest (All-head IsNeedlePoint q rest all) (All-tail IsNeedlePoint q rest all)

-- numbers within a limit differ by at most twice the limit
pub difference_few : (a b : ℤ) (limit : ℕ) → unsigned_abs a ≤ limit → unsigned_abs b ≤ limit → unsigned_abs (b -ℤ a) ≤ limit + limit
difference_few a b limit from to = grind (arith, ints)

-- the move between two needle points has a limited size
pub size_few : (p q : Point) → IsNeedlePoint p → IsNeedlePoint q → move_size (move_between p q) ≤ 60000
size_few p q from to = grind (arith, nat_tests, within_parts, max-le, difference_few)
