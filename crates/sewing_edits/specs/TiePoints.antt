-- The points of a tie: p, the end of a thread, q along the thread from it, and h, halfway. Lengths
-- are whole tenths of a millimetre, compared by their squares.
use Rattle.std.specs.Prelude.{ℕ, zero, suc, ℤ, pos, ◌+◌, ◌-◌, ◌*◌, ◌/◌, ◌+ℤ◌, ◌-ℤ◌, int_le, Bool, List, [], ◌∷◌, Option, Some, None, nat_le, unsigned_abs, unwrap_or, if◌then◌else◌}
use Rattle.design_model.specs.declared.point.Point.{Point}
use Rattle.design_model.specs.Lengths.{square_of}
use Rattle.design_model.specs.Points.{move_between, move_size}
use Rattle.design_review.specs.declared.thread_needles.ThreadNeedle.{ThreadNeedle}

-- The distance that is covered after `i` of `n` equal parts, to the nearest, halves up.
abbrev pub part_up : (i distance n : ℕ) → ℕ
part_up i distance n = (2 * (i * distance) + n) / (2 * n)

-- The distance that is covered after `i` of `n` equal parts, to the nearest, halves down.
abbrev pub part_down : (i distance n : ℕ) → ℕ
part_down i distance n = (2 * (i * distance) + n - 1) / (2 * n)

-- The coordinate after `i` of `n` equal parts from one coordinate to another, to the nearest.
-- Halves go to the greater coordinate.
abbrev pub coordinate_after : (from to : ℤ) → (n i : ℕ) → ℤ
coordinate_after from to n i =
    if int_le from to then from +ℤ pos (part_up i (unsigned_abs (to -ℤ from)) n)
    else from -ℤ pos (part_down i (unsigned_abs (to -ℤ from)) n)

-- The point of a stitch after `i` of `n` equal parts.
abbrev pub point_on_stitch : Point → Point → (n i : ℕ) → Point
point_on_stitch p q n i = record {
  x = coordinate_after p.x q.x n i;
  y = coordinate_after p.y q.y n i;
}

-- The test whether a point is at least so far from p.
abbrev pub is_far : (length : ℕ) (p q : Point) → Bool
is_far length p q = nat_le (length * length) (square_of p q)

-- The first point of the last `left` of `n` parts of a stitch that is at least so far from p.
abbrev pub point_beyond : (length : ℕ) (p from to : Point) (n left : ℕ) → Option Point
point_beyond length p from to n zero = None
point_beyond length p from to n (suc left) =
    let q = point_on_stitch from to n (n - left) in
    if is_far length p q then Some q else point_beyond length p from to n left

-- The first point of a stitch that is at least so far from p, by steps of a tenth along the longer
-- axis.
abbrev pub point_on_span : (length : ℕ) (p from to : Point) → Option Point
point_on_span length p from to =
    let n = move_size (move_between from to) in point_beyond length p from to n n

-- The first point, if there is one, else the second.
abbrev pub either_point : Option Point → Option Point → Option Point
either_point (Some q) other = Some q
either_point None other = other

-- The first point along a thread that is at least so far from p, given the needle before those that
-- are left. A float is on the way as a stitch is.
abbrev pub point_along : (length : ℕ) (p before : Point) → List ThreadNeedle → Option Point
point_along length p before [] = None
point_along length p before (n ∷ rest) =
    either_point (point_on_span length p before n.at) (point_along length p n.at rest)

-- The point beside another one: to the right, or to the left of a point right of the origin.
abbrev pub point_beside : ℕ → Point → Point
point_beside length p = record {
  x = if int_le p.x (pos 0) then p.x +ℤ pos length else p.x -ℤ pos length;
  y = p.y;
}

-- The point q of a tie of p, the first needle of a thread, given the others: the first along them
-- that is far enough, or beside p where none is.
abbrev pub tie_point : (length : ℕ) → Point → List ThreadNeedle → Point
tie_point length p rest = unwrap_or (point_along length p p rest) (point_beside length p)

-- The coordinate halfway between two, rounded down.
abbrev pub halfway : ℤ → ℤ → ℤ
halfway a b = (if int_le a b then a else b) +ℤ pos (unsigned_abs (b -ℤ a) / 2)

-- The point halfway between two, each coordinate rounded down.
abbrev pub halfway_point : Point → Point → Point
halfway_point p q = record { x = halfway p.x q.x; y = halfway p.y q.y }
