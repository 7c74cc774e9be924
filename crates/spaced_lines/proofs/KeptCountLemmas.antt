-- A block of spaced lines lists each junction as often as before, and each other point as often or less.
use Rattle.std.proofs.Common.{◌≡◌, ◌∙◌, ℕ, ◌+◌, ◌==◌, ◌≤◌, Bool, true, false, cond, nat_le, List, [], ◌∷◌, ◌++◌, map, filter, refl, ap, sym, arith}
use Rattle.spaced_lines.proofs.Names.{nat_tests, ap₂, sum_by-cons, flat_map, Point, is_same_point, Spot, LineValue, is_shared_point, is_spot_of, spaced_line, spaced_points, SpacingRule, eqb-true, count_by, listed_in, same_is}
use Rattle.spaced_lines.proofs.SpacingLemmas.{kept_after, of_kept, tested_stay}

-- how many points pass a test
abbrev places : (Point → Bool) → List Point → ℕ
places t [] = 0
places t (x ∷ xs) = cond (t x) 1 0 + places t xs

counted : (t : Point → Bool) (xs : List Point) → count_by t xs ≡ places t xs
counted t [] = refl
counted t (x ∷ xs) = sum_by-cons (λ (y : Point). cond (t y) 1 0) x xs ∙ ap (λ (n : ℕ). cond (t x) 1 0 + n) (counted t xs)

places_append : (t : Point → Bool) (xs ys : List Point) → places t (xs ++ ys) ≡ places t xs + places t ys
places_append t [] ys = omega arith
places_append t (x ∷ xs) ys = omega (arith, places_append t xs ys)

-- a test that only points that stay pass counts these alone
places_tested : (stays t : Point → Bool) → ((x : Point) → t x ≡ true → stays x ≡ true) → (xs : List Point)
    → places t (filter stays xs) ≡ places t xs
places_tested stays t so [] = refl
places_tested stays t so (x ∷ xs) =
    grind (arith, nat_tests, (filter stays xs), (places_tested stays t so xs))

same_places : (stays t : Point → Bool) (rule : SpacingRule) (points : List Point) → ((x : Point) → t x ≡ true → stays x ≡ true)
    → places t (spaced_points stays rule points) ≡ places t points
same_places stays t rule points so =
    sym (places_tested stays t so (spaced_points stays rule points))
    ∙ (ap (λ (xs : List Point). places t xs) (tested_stay stays rule points) ∙ places_tested stays t so points)

fewer_after : (stays t : Point → Bool) (rule : SpacingRule) (a : Point) (points : List Point)
    → places t (kept_after stays rule a points) ≤ places t points
fewer_after stays t rule = of_kept stays rule (λ a points kept. places t kept ≤ places t points) (λ a. omega arith)
    (λ a b out after kept may is. omega (arith, is, places_append t out (b ∷ after)))

fewer_places : (stays t : Point → Bool) (rule : SpacingRule) (points : List Point)
    → places t (spaced_points stays rule points) ≤ places t points
fewer_places stays t rule [] = omega arith
fewer_places stays t rule (a ∷ points) = omega (arith, fewer_after stays t rule a points)

-- the points of lines
abbrev points_along_lines : List LineValue → List Point
points_along_lines lines = flat_map (λ (line : LineValue). line.points) lines

listed_one : (t : Point → Bool) (line : LineValue) (others : List LineValue) (c : Bool)
    → places t (points_along_lines (cond c (line ∷ others) others)) ≡ cond c (places t line.points) 0 + places t (points_along_lines others)
listed_one t line others true = places_append t line.points (points_along_lines others)
listed_one t line others false = omega arith

where_fewer : (c : Bool) (m n : ℕ) → m ≤ n → cond c m 0 ≤ cond c n 0
where_fewer c m n h1 = grind (arith, nat_tests)

same_listed : (spots : Spot → Bool) (rule : SpacingRule) (block : ℕ) (t : Point → Bool) (lines : List LineValue)
    → ((line : LineValue) → (line.block == block) ≡ true → places t (spaced_line spots rule line).points ≡ places t line.points)
    → places t (listed_in (map (spaced_line spots rule) lines) block) ≡ places t (listed_in lines block)
same_listed spots rule block t [] same = refl
same_listed spots rule block t (line ∷ rest) same =
    let one = listed_one t (spaced_line spots rule line)
    (filter (λ (l : LineValue). l.block == block) (map (spaced_line spots rule) rest)) (line.block == block) in
    let other = listed_one t line (filter (λ (l : LineValue). l.block == block) rest) (line.block == block) in
    one ∙ (ap₂ (λ (m n : ℕ). m + n)
    (grind (arith, nat_tests, (line.block == block)))
    (same_listed spots rule block t rest same) ∙ sym other)

fewer_listed : (spots : Spot → Bool) (rule : SpacingRule) (block : ℕ) (t : Point → Bool) (lines : List LineValue)
    → places t (listed_in (map (spaced_line spots rule) lines) block) ≤ places t (listed_in lines block)
fewer_listed spots rule block t [] = omega arith
fewer_listed spots rule block t (line ∷ rest) =
    let one = listed_one t (spaced_line spots rule line)
    (filter (λ (l : LineValue). l.block == block) (map (spaced_line spots rule) rest)) (line.block == block) in
    let other = listed_one t line (filter (λ (l : LineValue). l.block == block) rest) (line.block == block) in
    omega (
      arith,
      one,
      other,
      where_fewer (line.block == block) (places t (spaced_line spots rule line).points) (places t line.points)
          (fewer_places (is_spot_of spots line.block) t rule line.points),
      fewer_listed spots rule block t rest,
    )

-- a spot that stays is shared where it was
pub shared_same : (spots : Spot → Bool) (rule : SpacingRule) (block : ℕ) (lines : List LineValue) (p : Point)
    → is_spot_of spots block p ≡ true
    → is_shared_point (map (spaced_line spots rule) lines) block p ≡ is_shared_point lines block p
shared_same spots rule block lines p stays =
    ap (λ (n : ℕ). nat_le 2 n)
    (counted (is_same_point p) (listed_in (map (spaced_line spots rule) lines) block)
    ∙ (same_listed spots rule block (is_same_point p) lines each
    ∙ sym (counted (is_same_point p) (listed_in lines block))))
  where
    each : (line : LineValue) → (line.block == block) ≡ true
        → places (is_same_point p) (spaced_line spots rule line).points ≡ places (is_same_point p) line.points
    each line here = same_places (is_spot_of spots line.block) (is_same_point p) rule line.points
        (λ x same. ap₂ (λ (b : ℕ) (q : Point). is_spot_of spots b q) (eqb-true line.block block here) (sym (same_is p x same)) ∙ stays)

-- a point that isn't shared isn't shared afterwards
pub unshared_still : (spots : Spot → Bool) (rule : SpacingRule) (block : ℕ) (lines : List LineValue) (p : Point)
    → is_shared_point lines block p ≡ false → is_shared_point (map (spaced_line spots rule) lines) block p ≡ false
unshared_still spots rule block lines p is =
    grind (
      arith,
      nat_tests,
      counted (is_same_point p) (listed_in (map (spaced_line spots rule) lines) block),
      counted (is_same_point p) (listed_in lines block),
      fewer_listed spots rule block (is_same_point p) lines,
    )
