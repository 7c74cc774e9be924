-- Lengths of straight lines between points, in thousandths of a millimetre.
use Rattle.std.specs.Prelude.{ℕ, zero, suc, ◌+◌, ◌*◌, ◌^◌, ◌-ℤ◌, nat_le, unsigned_abs, if◌then◌else◌}
use Rattle.design_model.specs.declared.point.Point.{Point}

-- The square root of n, rounded down, from its binary digits: `root` has those above the last `k`.
abbrev pub root_from : ℕ → ℕ → ℕ → ℕ
root_from n zero root = root
root_from n (suc k) root = root_from n k
    (if nat_le ((root + 2 ^ k) * (root + 2 ^ k)) n then root + 2 ^ k else root)

-- The square root of a number below 2 ^ 128, rounded down.
unfoldable pub whole_root : ℕ → ℕ
whole_root n = root_from n 64 0

-- The square of the length of the line from one point to another, in square tenths of a millimetre.
unfoldable pub square_of : Point → Point → ℕ
square_of p q = unsigned_abs (q.x -ℤ p.x) * unsigned_abs (q.x -ℤ p.x)
    + unsigned_abs (q.y -ℤ p.y) * unsigned_abs (q.y -ℤ p.y)

-- The length of the line from one point to another, rounded down.
unfoldable pub length_of : Point → Point → ℕ
length_of p q = whole_root (10000 * square_of p q)
