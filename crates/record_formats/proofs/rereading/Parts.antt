-- The parts of a move between two needles: each is within the limit, and each ends between the two.
use Rattle.std.proofs.Common.{◌≡◌, ℕ, ◌+◌, ◌*◌, ◌<◌, ◌≤◌, unsigned_abs, IsTrue, arith}
use Rattle.record_formats.proofs.Names.{ints, Point, NEEDLE_LIMIT, JUMP_LIMIT, is_point_within, move_between, move_size, hops_of, position_after_move, part_end, point_of_parts, within_from, nat_tests, within_more}
use Rattle.record_formats.proofs.rereading.Hops.{axis_all, axis_step, axis_between}

-- a move that n moves within the limit can make up
pub record Splits (limit : ℕ) (m : Point) (n : ℕ) : Type 0 where
  pub some : 0 < n
  pub x : unsigned_abs m.x ≤ n * limit
  pub y : unsigned_abs m.y ≤ n * limit

-- the hops of a move are enough for it
pub hops_enough : (limit : ℕ) (m : Point) → 0 < limit → move_size m ≤ hops_of limit m * limit
hops_enough limit m h1 = grind (arith, nat_tests, ints)

-- a move without hops leaves the place
pub no_hops : (limit : ℕ) (place p : Point) → 0 < limit → hops_of limit (move_between place p) ≡ 0 → place ≡ p
no_hops limit place p h1 h2 = grind (arith, nat_tests, ints)

pub part_within : (limit : ℕ) (m : Point) (n done : ℕ) → Splits limit m n
    → IsTrue (is_point_within limit (move_between (part_end m n done) (part_end m n (done + 1))))
part_within limit m n done splits = within_from limit (move_between (part_end m n done) (part_end m n (done + 1)))
    (axis_step m.x n done limit splits.some splits.x) (axis_step m.y n done limit splits.some splits.y)

pub part_all : (m : Point) (n : ℕ) → 0 < n → part_end m n n ≡ m
part_all m n some = point_of_parts (axis_all m.x n some) (axis_all m.y n some)

pub part_none : (place m : Point) (n : ℕ) → 0 < n → position_after_move place (part_end m n 0) ≡ place
part_none place m n h1 = grind (arith, nat_tests, ints)

-- a move on from a part
pub moved-on : (place p q : Point) → position_after_move (position_after_move place p) (move_between p q) ≡ position_after_move place q
moved-on place p q = point_of_parts (omega (arith, ints)) (omega (arith, ints))

-- a part ends between the places before and after the whole
pub part_between : (place m : Point) (n count limit : ℕ) → 0 < n → count ≤ n → IsTrue (is_point_within limit place)
    → IsTrue (is_point_within limit (position_after_move place m))
    → IsTrue (is_point_within limit (position_after_move place (part_end m n count)))
part_between place m n count limit some less here there =
    grind (arith, nat_tests, (axis_between place.x m.x n count limit), (axis_between place.y m.y n count limit))

-- a move between two places leads from the one to the other
pub moved-between : (place p : Point) → position_after_move place (move_between place p) ≡ p
moved-between place p = grind (arith, nat_tests, ints)

-- where a move lies, and into how many parts it is divided
pub record Lies (limit : ℕ) (place m : Point) (n : ℕ) : Type 0 where
  pub splits : Splits limit m n
  pub here : IsTrue (is_point_within NEEDLE_LIMIT place)
  pub there : IsTrue (is_point_within NEEDLE_LIMIT (position_after_move place m))

-- the place after some parts is in the range of jumps
pub part_in_range : (limit : ℕ) (place m : Point) (n count : ℕ) → Lies limit place m n → count ≤ n
    → IsTrue (is_point_within JUMP_LIMIT (position_after_move place (part_end m n count)))
part_in_range limit place m n count lies less =
    grind (arith, nat_tests, within_more, part_between, lies.splits.some, lies.here, lies.there)

-- a move from a needle to a needle lies in range
pub lies_from : (limit : ℕ) (place p : Point) (n : ℕ) → 0 < n → move_size (move_between place p) ≤ n * limit
    → IsTrue (is_point_within NEEDLE_LIMIT place) → IsTrue (is_point_within NEEDLE_LIMIT p) → Lies limit place (move_between place p) n
lies_from limit place p n h1 h2 h3 h4 = grind (arith, nat_tests, ints)
