-- How long ties are: the point q of a tie is at least its length from p, and at most 2 mm.
use Rattle.std.proofs.Common.{◌≡◌, ℕ, zero, suc, ℤ, pos, ◌+◌, ◌-◌, ◌*◌, ◌/◌, ◌≤◌, ◌<◌, ◌-ℤ◌, ◌+ℤ◌, unsigned_abs, int_le, nat_le, Bool, true, false, ◌⊎◌, inl, inr, List, [], ◌∷◌, Option, Some, None, unwrap_or, refl, sym, ap, subst, ◌∙◌, arith}
use Rattle.std.proofs.Math.Nat.{div-eq_of_lt, div-lt_iff_lt-mul, le-div_iff_mul-le}
use Rattle.std.proofs.lemmas.Bool.{cases_lt}
use Rattle.std.proofs.lemmas.Nat.{div-mul-add, mul-le}
use Rattle.design_model.specs.Lengths.{square_of}
use Rattle.design_review.specs.declared.thread_needles.ThreadNeedle.{ThreadNeedle}
use Rattle.sewing_edits.specs.ThreadTies.{is_tie_length}
use Rattle.sewing_edits.specs.TiePoints.{coordinate_after, either_point, is_far, part_down, part_up, point_along, point_beside, point_beyond, point_on_span, point_on_stitch, tie_point}
use Rattle.sewing_edits.specs.TieTheorems.{IsTieLength}
use Rattle.sewing_edits.proofs.Names.{nat_tests, ints, Point, le-max_left, le-max_right, move_between, move_size, same_point, if◌then◌else◌}

pub own_square : (p : Point) → square_of p p ≡ 0
unfolding square_of
own_square p =
    let across : unsigned_abs (p.x -ℤ p.x) ≡ 0 = grind (arith, ints) in
    let down : unsigned_abs (p.y -ℤ p.y) ≡ 0 = grind (arith, ints) in
    rw (across, down) refl

pub square_back : (p q : Point) → square_of q p ≡ square_of p q
unfolding square_of
square_back p q =
    let across : unsigned_abs (p.x -ℤ q.x) ≡ unsigned_abs (q.x -ℤ p.x) = grind (arith, ints) in
    let down : unsigned_abs (p.y -ℤ q.y) ≡ unsigned_abs (q.y -ℤ p.y) = grind (arith, ints) in
    rw (across, down) refl

-- one part more covers at most one more
next_part : (x y k m : ℕ) → 1 ≤ k → x / k ≡ m → x ≤ y → y ≤ x + k → (m ≤ y / k) × (y / k ≤ m + 1)
next_part x y k m some is more most =
    let low : m * k ≤ x = (le-div_iff_mul-le {k = k} {x = m} {y = x} (omega (arith, some))).0 (omega (arith, is)) in
    let high : x < (m + 1) * k = (div-lt_iff_lt-mul {k = k} {x = x} {y = m + 1} (omega (arith, some))).0 (omega (arith, is)) in
    let above : y / k < m + 2 = (div-lt_iff_lt-mul {k = k} {x = y} {y = m + 2} (omega (arith, some))).1 (omega (arith, high, most)) in
    ((le-div_iff_mul-le {k = k} {x = m} {y = y} (omega (arith, some))).1 (omega (arith, low, more)), omega (arith, above))

next_up : (i d n : ℕ) → 1 ≤ n → d ≤ n → (part_up i d n ≤ part_up (i + 1) d n) × (part_up (i + 1) d n ≤ part_up i d n + 1)
next_up i d n some small = next_part (2 * (i * d) + n) (2 * ((i + 1) * d) + n) (2 * n) _ (omega (arith, some)) refl
    (omega arith) (omega (arith, small))

next_down : (i d n : ℕ) → 1 ≤ n → d ≤ n
    → (part_down i d n ≤ part_down (i + 1) d n) × (part_down (i + 1) d n ≤ part_down i d n + 1)
next_down i d n some small = next_part (2 * (i * d) + n - 1) (2 * ((i + 1) * d) + n - 1) (2 * n) _ (omega (arith, some)) refl
    (omega (arith, some)) (omega (arith, some, small))

nearer_up : (c from : ℤ) (a b : ℕ) → a ≤ b → b ≤ a + 1
    → unsigned_abs ((from +ℤ pos b) -ℤ c) ≤ unsigned_abs ((from +ℤ pos a) -ℤ c) + 1
nearer_up c from a b more most = omega (arith, ints, more, most)

nearer_down : (c from : ℤ) (a b : ℕ) → a ≤ b → b ≤ a + 1
    → unsigned_abs ((from -ℤ pos b) -ℤ c) ≤ unsigned_abs ((from -ℤ pos a) -ℤ c) + 1
nearer_down c from a b more most = omega (arith, ints, more, most)

-- from one point of a stitch to the next, a coordinate changes by at most one
next_coordinate : (c from to : ℤ) (n i : ℕ) → 1 ≤ n → unsigned_abs (to -ℤ from) ≤ n
    → unsigned_abs (coordinate_after from to n (i + 1) -ℤ c) ≤ unsigned_abs (coordinate_after from to n i -ℤ c) + 1
next_coordinate c from to n i some small = by_side (int_le from to)
  where
    d : ℕ
    d = unsigned_abs (to -ℤ from)

    by_side : (up : Bool)
        → unsigned_abs ((if up then from +ℤ pos (part_up (i + 1) d n) else from -ℤ pos (part_down (i + 1) d n)) -ℤ c)
        ≤ unsigned_abs ((if up then from +ℤ pos (part_up i d n) else from -ℤ pos (part_down i d n)) -ℤ c) + 1
    by_side true = nearer_up c from _ _ (next_up i d n some small).0 (next_up i d n some small).1
    by_side false = nearer_down c from _ _ (next_down i d n some small).0 (next_down i d n some small).1

-- no part of a stitch is its start, and all parts are its end
start_coordinate : (from to : ℤ) (n : ℕ) → 1 ≤ n → coordinate_after from to n 0 ≡ from
start_coordinate from to n some = by_side (int_le from to)
  where
    d : ℕ
    d = unsigned_abs (to -ℤ from)

    up : part_up 0 d n ≡ 0
    up = div-eq_of_lt {n = 2 * (0 * d) + n} {m = 2 * n} (omega (arith, some))

    down : part_down 0 d n ≡ 0
    down = div-eq_of_lt {n = 2 * (0 * d) + n - 1} {m = 2 * n} (omega (arith, some))

    by_side : (side : Bool) → (if side then from +ℤ pos (part_up 0 d n) else from -ℤ pos (part_down 0 d n)) ≡ from
    by_side true = rw up (omega (arith, ints))
    by_side false = rw down (omega (arith, ints))

end_coordinate : (from to : ℤ) (n : ℕ) → 1 ≤ n → coordinate_after from to n n ≡ to
end_coordinate from to n some = by_side (int_le from to) refl
  where
    d : ℕ
    d = unsigned_abs (to -ℤ from)

    up : part_up n d n ≡ d
    up = ap (λ (x : ℕ). x / (2 * n)) (sum n d) ∙ div-mul-add d (2 * n) n (omega (arith, some))
      where
        sum : (n d : ℕ) → 2 * (n * d) + n ≡ d * (2 * n) + n
        sum n d = omega arith

    down : part_down n d n ≡ d
    down = ap (λ (x : ℕ). x / (2 * n)) (sum n d some) ∙ div-mul-add d (2 * n) (n - 1) (omega (arith, some))
      where
        sum : (n d : ℕ) → 1 ≤ n → 2 * (n * d) + n - 1 ≡ d * (2 * n) + (n - 1)
        sum n d some = omega (arith, some)

    by_side : (side : Bool) → int_le from to ≡ side
        → (if side then from +ℤ pos (part_up n d n) else from -ℤ pos (part_down n d n)) ≡ to
    by_side true is = rw up (grind (arith, nat_tests, ints, is))
    by_side false is = rw down (grind (arith, nat_tests, ints, is))

start_is : (from to : Point) (n : ℕ) → 1 ≤ n → point_on_stitch from to n 0 ≡ from
start_is from to n some =
    same_point _ from (start_coordinate from.x to.x n some) (start_coordinate from.y to.y n some)

end_is : (from to : Point) (n : ℕ) → 1 ≤ n → point_on_stitch from to n n ≡ to
end_is from to n some = same_point _ to (end_coordinate from.x to.x n some) (end_coordinate from.y to.y n some)

-- a point next to one that is nearer than a tie is at most 2 mm away
next_square : (length u v u' v' : ℕ) → length ≤ 18 → u' ≤ u + 1 → v' ≤ v + 1 → u * u + v * v < length * length
    → u' * u' + v' * v' ≤ 400
next_square length u v u' v' short across down near =
    let less : length * length ≤ 18 * 18 = mul-le length length 18 18 short short in
    let u_small : u ≤ 17 = small u (omega (arith, near, less)) in
    let v_small : v ≤ 17 = small v (omega (arith, near, less)) in
    omega (arith, near, less, u_small, v_small, mul-le u' u' (u + 1) (u + 1) across across, mul-le v' v' (v + 1) (v + 1) down down)
  where
    small : (u : ℕ) → u * u < 324 → u ≤ 17
    small u less = by_cases (cases_lt 17 u)
      where
        by_cases : (17 < u) ⊎ (u ≤ 17) → u ≤ 17
        by_cases (inl above) = absurd (omega (arith, less, mul-le 18 18 u u (omega (arith, above)) (omega (arith, above))))
        by_cases (inr le) = le

-- What is found along a stitch: a point as far as a tie, or none where its end is nearer.
abbrev pub IsFound : (length : ℕ) (p to : Point) → Option Point → Type 0
IsFound length p to (Some q) = (length * length ≤ square_of p q) × (square_of p q ≤ 400)
IsFound length p to None = square_of p to < length * length

at_least : (a b : ℕ) → nat_le a b ≡ true → a ≤ b
at_least a b is = grind (arith, nat_tests, is)

less : (a b : ℕ) → nat_le a b ≡ false → b < a
less a b is = grind (arith, nat_tests, is)

beyond_found : (length : ℕ) (p from to : Point) (n left i : ℕ) → length ≤ 18 → 1 ≤ n → i + left ≡ n
    → unsigned_abs (to.x -ℤ from.x) ≤ n → unsigned_abs (to.y -ℤ from.y) ≤ n
    → square_of p (point_on_stitch from to n i) < length * length
    → IsFound length p to (point_beyond length p from to n left)
unfolding square_of
beyond_found length p from to n zero i short some sum across down near =
    let all : i ≡ n = omega (arith, sum) in
    subst (λ (q : Point). square_of p q < length * length) (end_is from to n some)
    (subst (λ (k : ℕ). square_of p (point_on_stitch from to n k) < length * length) all near)
beyond_found length p from to n (suc left) i short some sum across down near = by_test (nat_le (length * length) (square_of p next)) refl
    (beyond_found length p from to n left (i + 1) short some (omega (arith, sum)) across down)
  where
    next : Point
    next = point_on_stitch from to n (n - left)

    is_next : n - left ≡ i + 1
    is_next = omega (arith, sum)

    most : square_of p next ≤ 400
    most = subst (λ (k : ℕ). square_of p (point_on_stitch from to n k) ≤ 400) (sym is_next)
        (next_square length _ _ _ _ short (next_coordinate p.x from.x to.x n i some across)
        (next_coordinate p.y from.y to.y n i some down) near)

    by_test : (test : Bool) → nat_le (length * length) (square_of p next) ≡ test
        → (square_of p (point_on_stitch from to n (i + 1)) < length * length
        → IsFound length p to (point_beyond length p from to n left))
        → IsFound length p to (if test then Some next else point_beyond length p from to n left)
    by_test true is later = (at_least (length * length) (square_of p next) is, most)
    by_test false is later = later (subst (λ (k : ℕ). square_of p (point_on_stitch from to n k) < length * length) is_next
        (less (length * length) (square_of p next) is))

-- a stitch without a part has one point
no_size : (p q : Point) → move_size (move_between p q) ≡ 0 → p ≡ q
no_size p q none = same_point p q (no_way p.x q.x across) (no_way p.y q.y down)
  where
    across : unsigned_abs (q.x -ℤ p.x) ≡ 0
    across = omega (arith, none, le-max_left (unsigned_abs (q.x -ℤ p.x)) (unsigned_abs (q.y -ℤ p.y)))

    down : unsigned_abs (q.y -ℤ p.y) ≡ 0
    down = omega (arith, none, le-max_right (unsigned_abs (q.x -ℤ p.x)) (unsigned_abs (q.y -ℤ p.y)))

    no_way : (a b : ℤ) → unsigned_abs (b -ℤ a) ≡ 0 → a ≡ b
    no_way a b is = omega (arith, ints, is)

span_found : (length : ℕ) (p from to : Point) → length ≤ 18 → square_of p from < length * length
    → IsFound length p to (point_on_span length p from to)
span_found length p from to short near = by_size (move_size (move_between from to)) refl
  where
    by_size : (n : ℕ) → move_size (move_between from to) ≡ n → IsFound length p to (point_beyond length p from to n n)
    by_size zero none = subst (λ (q : Point). square_of p q < length * length) (no_size from to none) near
    by_size (suc n) is = beyond_found length p from to (suc n) (suc n) 0 short (omega arith) (omega arith)
        (omega (arith, is, le-max_left (unsigned_abs (to.x -ℤ from.x)) (unsigned_abs (to.y -ℤ from.y))))
        (omega (arith, is, le-max_right (unsigned_abs (to.x -ℤ from.x)) (unsigned_abs (to.y -ℤ from.y))))
        (subst (λ (q : Point). square_of p q < length * length) (sym (start_is from to (suc n) (omega arith))) near)

-- What is found along a thread: a point as far as a tie.
abbrev pub IsFar : (length : ℕ) (p : Point) → Option Point → Type 0
IsFar length p (Some q) = (length * length ≤ square_of p q) × (square_of p q ≤ 400)
IsFar length p None = Unit {0}

along_found : (length : ℕ) (p before : Point) (rest : List ThreadNeedle) → length ≤ 18 → square_of p before < length * length
    → IsFar length p (point_along length p before rest)
along_found length p before [] short near = tt
along_found length p before (n ∷ rest) short near =
    by_found (point_on_span length p before n.at) (span_found length p before n.at short near)
    (λ (next : square_of p n.at < length * length). along_found length p n.at rest short next)
  where
    by_found : (found : Option Point) → IsFound length p n.at found
        → (square_of p n.at < length * length → IsFar length p (point_along length p n.at rest))
        → IsFar length p (either_point found (point_along length p n.at rest))
    by_found (Some q) is later = is
    by_found None is later = later is

beside_square : (length : ℕ) (p : Point) → square_of p (point_beside length p) ≡ length * length
unfolding square_of
beside_square length p =
    let down : unsigned_abs (p.y -ℤ p.y) ≡ 0 = grind (arith, ints) in
    rw (across (int_le p.x (pos 0)), down) (omega arith)
  where
    across : (left : Bool) → unsigned_abs ((if left then p.x +ℤ pos length else p.x -ℤ pos length) -ℤ p.x) ≡ length
    across true = grind (arith, ints)
    across false = grind (arith, ints)

-- a tie is as long as a tie can be
pub tie_length_fits : (length : ℕ) (p : Point) (rest : List ThreadNeedle) → IsTieLength length
    → is_tie_length (square_of p (tie_point length p rest)) ≡ true
tie_length_fits length p rest is = by_found (point_along length p p rest)
    (along_found length p p rest is.most (rw (own_square p) (omega (arith, less))))
  where
    less : 64 ≤ length * length
    less = mul-le 8 8 length length is.least is.least

    more : length * length ≤ 324
    more = mul-le length length 18 18 is.most is.most

    fits : (square : ℕ) → 64 ≤ square → square ≤ 400 → is_tie_length square ≡ true
    fits square low high = grind (arith, nat_tests, low, high)

    by_found : (found : Option Point) → IsFar length p found
        → is_tie_length (square_of p (unwrap_or found (point_beside length p))) ≡ true
    by_found (Some q) far = fits (square_of p q) (omega (arith, far.0, less)) far.1
    by_found None far = rw (beside_square length p) (fits (length * length) less (omega (arith, more)))

-- the first of the parts that are left
first_far : (length : ℕ) (p from to : Point) (n left : ℕ) → is_far length p (point_on_stitch from to n (n - left)) ≡ true
    → point_beyond length p from to n (suc left) ≡ Some (point_on_stitch from to n (n - left))
first_far length p from to n left far = rw far refl

first_near : (length : ℕ) (p from to : Point) (n left : ℕ) → is_far length p (point_on_stitch from to n (n - left)) ≡ false
    → point_beyond length p from to n (suc left) ≡ point_beyond length p from to n left
first_near length p from to n left near = rw near refl

one_less : (left : ℕ) → suc left - 1 ≡ left
one_less left = omega arith

-- the point after it, where that is far enough, and else the first after one of the others
pub beyond_is : (length : ℕ) (p from to : Point) (n left : ℕ) → 0 < left
    → is_far length p (point_on_stitch from to n (n - (left - 1))) ≡ true
    → point_beyond length p from to n left ≡ Some (point_on_stitch from to n (n - (left - 1)))
beyond_is length p from to n zero some far = absurd (omega (arith, some))
beyond_is length p from to n (suc left) some far = subst
    (λ (k : ℕ). point_beyond length p from to n (suc left) ≡ Some (point_on_stitch from to n (n - k))) (sym (one_less left))
    (first_far length p from to n left (subst (λ (k : ℕ). is_far length p (point_on_stitch from to n (n - k)) ≡ true) (one_less left) far))

pub beyond_next : (length : ℕ) (p from to : Point) (n left : ℕ) → 0 < left
    → is_far length p (point_on_stitch from to n (n - (left - 1))) ≡ false
    → point_beyond length p from to n left ≡ point_beyond length p from to n (left - 1)
beyond_next length p from to n zero some near = absurd (omega (arith, some))
beyond_next length p from to n (suc left) some near = subst
    (λ (k : ℕ). point_beyond length p from to n (suc left) ≡ point_beyond length p from to n k) (sym (one_less left))
    (first_near length p from to n left (subst (λ (k : ℕ). is_far length p (point_on_stitch from to n (n - k)) ≡ false)
    (one_less left) near))

pub none_beyond : (length : ℕ) (p from to : Point) (n left : ℕ) → left ≤ 0 → point_beyond length p from to n left ≡ None
none_beyond length p from to n zero none = refl
none_beyond length p from to n (suc left) none = absurd (omega (arith, none))
