-- A least cost is at most the costs of all lines: each height below it is crossed by a line.
use Rattle.std.proofs.Common.{◌≡◌, ℕ, ◌+◌, ◌-◌, ◌<◌, ◌≤◌, min, max, List, [], ◌∷◌, Some, ap, arith, inl, inr, ◌⊎◌, zero, suc}
use Rattle.std.specs.Prelude.{slice_get}
use Rattle.odd_paths.proofs.Names.{nat_tests, cases_lt, slice_index, Edge, edge_cost, edge_sum, Connects, IsEdgeWalk, IsFullyRelaxed, some_same}
use Rattle.odd_paths.proofs.PlaceLemmas.{none_is}

-- the range of an edge: from the lesser of the numbers at its ends to the greater
abbrev low : List ℕ → Edge → ℕ
low row e = min (slice_index row e.a) (slice_index row e.b)

abbrev high : List ℕ → Edge → ℕ
high row e = max (slice_index row e.a) (slice_index row e.b)

-- some line crosses the height
abbrev Crossed : List ℕ → List Edge → ℕ → Type 0
Crossed row es h = (k : ℕ) × (e : Edge) × (slice_get es k ≡ Some e) × (low row e ≤ h) × (h < high row e)

-- the sum of what the ranges of the edges have in common with the range from x to y
abbrev spans : List ℕ → ℕ → ℕ → List Edge → ℕ
spans row x y [] = 0
spans row x y (e ∷ es) = (min (high row e) y - max (low row e) x) + spans row x y es

-- an edge whose first end is no higher and whose second end is higher crosses the height
crosses : (row : List ℕ) (e : Edge) (i m h : ℕ) → Connects e i m → slice_index row i ≤ h → h < slice_index row m
    → (low row e ≤ h) × (h < high row e)
crosses row e i m h (inl p) under over = grind (arith, nat_tests)
crosses row e i m h (inr p) under over = grind (arith, nat_tests)

-- so a walk that rises above a height has an edge that crosses it
crossed : (row : List ℕ) (es : List Edge) (i j h : ℕ) (ks : List ℕ) → IsEdgeWalk es i j ks → slice_index row i ≤ h
    → h < slice_index row j → Crossed row es h
crossed row es i j h [] w under over = absurd (omega (arith, ap (λ (x : ℕ). slice_index row x) w))
crossed row es i j h (k ∷ ks) w under over = elim (cases_lt h (slice_index row w.1)) [
  | inl less ↦ let p = crosses row w.0 i w.1 h w.3 under less in (k, w.0, w.2, p.0, p.1)
  | inr more ↦ crossed row es w.1 j h ks w.4 more over
]

in_rest : (row : List ℕ) (x : Edge) (es : List Edge) (h k : ℕ) (e : Edge) → slice_get (x ∷ es) k ≡ Some e → low row e ≤ h
    → h < high row e → (h < low row x) ⊎ (high row x ≤ h) → Crossed row es h
in_rest row x es h zero e got lo hi (inl out) = let same = ap (low row) (some_same x e got) in absurd (omega arith)
in_rest row x es h zero e got lo hi (inr out) = let same = ap (high row) (some_same x e got) in absurd (omega arith)
in_rest row x es h (suc k) e got lo hi out = (k, e, got, lo, hi)

-- a range without the middle one, in two parts
spans_split : (row : List ℕ) (lo hi x y : ℕ) (es : List Edge) → lo ≤ hi
    → spans row x (min lo y) es + spans row (max hi x) y es ≤ spans row x y es
spans_split row lo hi x y [] le = omega arith
spans_split row lo hi x y (e ∷ es) le = grind (arith, nat_tests, spans_split row lo hi x y es le)

-- edges that cross each height of a range cover it
covered : (row : List ℕ) (es : List Edge) (x y : ℕ) → ((h : ℕ) → x ≤ h → h < y → Crossed row es h) → y - x ≤ spans row x y es
covered row [] x y f = elim (cases_lt x y) [
  | inl less ↦ let p = f x (omega arith) less in absurd (none_is p.1 p.2)
  | inr more ↦ omega arith
]
covered row (e ∷ es) x y f =
    let left : min (low row e) y - x ≤ spans row x (min (low row e) y) es = covered row es x (min (low row e) y)
    (λ h a b. let p = f h a (omega arith) in in_rest row e es h p.0 p.1 p.2 p.3 p.4 (inl (omega arith))) in
    let right : y - max (high row e) x ≤ spans row (max (high row e) x) y es = covered row es (max (high row e) x) y
    (λ h a b. let p = f h (omega arith) b in in_rest row e es h p.0 p.1 p.2 p.3 p.4 (inr (omega arith))) in
    grind (arith, nat_tests, left, right, spans_split row (low row e) (high row e) x y es (omega arith))

-- in a settled row the range of an edge is no more than its cost
spans_fit : (row : List ℕ) (x y : ℕ) (es : List Edge) → IsFullyRelaxed row es → spans row x y es ≤ edge_sum edge_cost es
spans_fit row x y [] s = omega arith
spans_fit row x y (e ∷ es) s = grind (arith, nat_tests, spans_fit row x y es s.1)

-- a walk rises by no more than all lines cost
pub rises_within : (row : List ℕ) (es : List Edge) (i j : ℕ) (ks : List ℕ) → IsFullyRelaxed row es → IsEdgeWalk es i j ks
    → slice_index row j - slice_index row i ≤ edge_sum edge_cost es
rises_within row es i j ks s w =
    let one = covered row es (slice_index row i) (slice_index row j) (λ h a b. crossed row es i j h ks w a b) in
    omega (arith, one, spans_fit row (slice_index row i) (slice_index row j) es s)
