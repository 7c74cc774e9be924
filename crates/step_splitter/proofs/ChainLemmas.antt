-- The points on the way from p to q as a chain.
use Rattle.std.proofs.Common.{◌≡◌, ◌≢◌, ℕ, zero, suc, ◌+◌, ◌*◌, ◌<◌, ◌≤◌, ◌-ℤ◌, map, All, unsigned_abs, IsTrue, ap, ◌∙◌, subst, arith}
use Rattle.step_splitter.proofs.Names.{nat_tests, range_with_len, le-max_left, le-max_right, Point, is_point_within, move_between, move_size, IsNeedlePoint, AreCloseAfter, LeadsBySteps, last_point_or, point_on_segment, split_points, steps_of, same_point, within_parts, get_or-map-range_with_len, length-map-range_with_len, HasNoRepeatAfter, within_from}
use Rattle.step_splitter.proofs.AxisLemmas.{axis_close, axis_first, axis_last, axis_moves, axis_within}
use Rattle.step_splitter.proofs.PointLemmas.{size_some}
use Rattle.step_splitter.proofs.QuotientLemmas.{div_ceil_covers, div_ceil_few, div_ceil_some}

-- where each value of a function lies close to the next, its values in a row keep close
close_along : (f : ℕ → Point) (limit a n : ℕ) → ((i : ℕ) → i < a + n → IsTrue (is_point_within limit (move_between (f i) (f (i + 1)))))
    → AreCloseAfter limit (f a) (map f (range_with_len (a + 1) n))
close_along f limit a zero near = tt
close_along f limit a (suc n) near = grind (arith, nat_tests, close_along f limit (a + 1) n (λ i h. near i (omega arith)))

-- and where each differs from the next, they keep moving
moving_along : (f : ℕ → Point) (a n : ℕ) → ((i : ℕ) → i < a + n → f i ≢ f (i + 1))
    → HasNoRepeatAfter (f a) (map f (range_with_len (a + 1) n))
moving_along f a zero apart = tt
moving_along f a (suc n) apart = grind (arith, nat_tests, moving_along f (a + 1) n (λ i h. apart i (omega arith)))

-- the last of the values in a row
last_along : (f : ℕ → Point) (a n : ℕ) → last_point_or (f a) (map f (range_with_len (a + 1) n)) ≡ f (a + n)
last_along f a zero = ap f (omega arith)
last_along f a (suc n) = last_along f (a + 1) n ∙ ap f (omega arith)

-- what holds of each value holds of the values in a row
all_along : (P : Point → Type 0) (f : ℕ → Point) (n : ℕ) → ((i : ℕ) → i ≤ n → P (f i)) → All P (map f (range_with_len 1 n))
all_along P f n each k d h = grind (arith, nat_tests, length-map-range_with_len f 1 n, get_or-map-range_with_len f 1 n k (k + 1) d)

-- the way from p to q in that many steps
module _ (p q : Point) (step n : ℕ) (some : 1 ≤ n) where
  first_point : point_on_segment p q n 0 ≡ p
  first_point = same_point _ p (axis_first p.x q.x n some) (axis_first p.y q.y n some)

  pub last_point : point_on_segment p q n n ≡ q
  last_point = same_point _ q (axis_last p.x q.x n some) (axis_last p.y q.y n some)

  each_close : move_size (move_between p q) ≤ n * step
      → (i : ℕ) → IsTrue (is_point_within step (move_between (point_on_segment p q n i) (point_on_segment p q n (i + 1))))
  each_close covers i =
      let across = le-max_left (unsigned_abs (q.x -ℤ p.x)) (unsigned_abs (q.y -ℤ p.y)) in
      let down = le-max_right (unsigned_abs (q.x -ℤ p.x)) (unsigned_abs (q.y -ℤ p.y)) in
      within_from step (move_between (point_on_segment p q n i) (point_on_segment p q n (i + 1)))
      (axis_close p.x q.x n i step some (omega arith))
      (axis_close p.y q.y n i step some (omega arith))

  each_moves : n ≤ move_size (move_between p q) → (i : ℕ) → point_on_segment p q n i ≢ point_on_segment p q n (i + 1)
  each_moves far i same =
      let across : n ≤ unsigned_abs (q.x -ℤ p.x) → ⊥ =
      λ there. axis_moves p.x q.x n i some there (ap (λ r. r.x) same) in
      let down : n ≤ unsigned_abs (q.y -ℤ p.y) → ⊥ =
      λ there. axis_moves p.y q.y n i some there (ap (λ r. r.y) same) in
      omega (arith, across, down)

  each_within : IsNeedlePoint p → IsNeedlePoint q → (i : ℕ) → i ≤ n → IsNeedlePoint (point_on_segment p q n i)
  each_within from to i there =
      let a = within_parts 30000 p from in
      let b = within_parts 30000 q to in
      within_from 30000 (point_on_segment p q n i)
      (axis_within p.x q.x n i 30000 some there a.0 b.0)
      (axis_within p.y q.y n i 30000 some there a.1 b.1)

-- the ends of the steps keep close, and the last is the other end of the segment
pub comes_close : (p q : Point) (step : ℕ) → 1 ≤ move_size (move_between p q) → 1 ≤ step
    → AreCloseAfter step p (split_points p q step) × (last_point_or p (split_points p q step) ≡ q)
comes_close p q step sized low =
    let n : ℕ = steps_of p q step in
    let size : ℕ = move_size (move_between p q) in
    let some : 1 ≤ n = div_ceil_some size step sized low in
    let f : ℕ → Point = λ i. point_on_segment p q n i in
    let first : f 0 ≡ p = first_point p q step n some in
    let Close : Point → Type 0 = λ r. AreCloseAfter step r (split_points p q step) in
    let Last : Point → Type 0 = λ r. last_point_or r (split_points p q step) ≡ q in (
      subst Close first
          (close_along f step 0 n (λ i h. each_close p q step n some (div_ceil_covers size step low) i)),
      subst Last first (last_along f 0 n ∙ (ap f (omega arith) ∙ last_point p q step n some)),
    )

-- the split of a segment leads from its one end to the other
pub leads : (p q : Point) (step : ℕ) → p ≢ q → IsNeedlePoint p → IsNeedlePoint q → 1 ≤ step → LeadsBySteps p q step (split_points p q step)
leads p q step differ from to low =
    let n : ℕ = steps_of p q step in
    let size : ℕ = move_size (move_between p q) in
    let some : 1 ≤ n = div_ceil_some size step (size_some p q differ) low in
    let f : ℕ → Point = λ i. point_on_segment p q n i in
    let first : f 0 ≡ p = first_point p q step n some in
    let close = comes_close p q step (size_some p q differ) low in
    let Moving : Point → Type 0 = λ r. HasNoRepeatAfter r (split_points p q step) in
    record {
      count = length-map-range_with_len f 1 n;
      some = omega (arith, length-map-range_with_len f 1 n);
      close = close.0;
      moving = subst Moving first
          (moving_along f 0 n (λ i h. each_moves p q step n some (div_ceil_few size step low) i));
      in_range = all_along IsNeedlePoint f n (each_within p q step n some from to);
      last = close.1;
    }
