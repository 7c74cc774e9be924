-- Numbers for needle points, which are compared and sorted in their place: a column, and a row in
-- it, each counted from 32,768 tenths of a millimetre left of or above the origin. No public clause
-- cites this file.
use Rattle.std.specs.Prelude.{ℕ, ℤ, pos, negsuc, ◌+◌, ◌-◌, ◌*◌, min, Bool, ◌&&◌, nat_le, nat_lt, List, count_by}
use Rattle.design_model.specs.declared.point.Point.{Point}

-- A coordinate, counted so. One beyond 30,000 counts as the limit.
abbrev pub key_coordinate : ℤ → ℕ
key_coordinate (pos n) = 32768 + min n 30000
key_coordinate (negsuc n) = 32768 - min (n + 1) 30000

-- The key of a needle point.
abbrev pub key_of : Point → ℕ
key_of p = key_coordinate p.x * 65536 + key_coordinate p.y

-- The keys from a least one to a greatest.
abbrev pub is_between : (least greatest key : ℕ) → Bool
is_between least greatest key = nat_le least key && nat_le key greatest

-- How many of the keys are between two.
abbrev pub count_between : List ℕ → (least greatest : ℕ) → ℕ
count_between keys least greatest = count_by (is_between least greatest) keys

-- How many of the keys are those of needles in one hole with a needle, by its key: in five columns.
abbrev pub count_near : List ℕ → ℕ → ℕ
count_near keys key = count_between keys (key - 131072) (key - 131072)
    + (count_between keys (key - 65537) (key - 65535)
    + (count_between keys (key - 2) (key + 2)
    + (count_between keys (key + 65535) (key + 65537)
    + count_between keys (key + 131072) (key + 131072))))

-- How many of the keys are below a bound.
abbrev pub count_below : List ℕ → ℕ → ℕ
count_below keys bound = count_by (λ key. nat_lt key bound) keys
