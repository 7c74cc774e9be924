-- One entry of a table is set.
use Rattle.std.proofs.Common.{◌≡◌, ◌≢◌, ℕ, ◌+◌, ◌*◌, ◌<◌, ◌≤◌, ◌&&◌, ◌||◌, ◌⊎◌, inl, inr, Bool, true, false, cond, eqb, List, length, max, min, set, get_or, arith, refl, sym, ap, ◌∙◌, get_or-set_other, get_or-set_same, slice_index}
use Rattle.std.proofs.Math.Nat.{mul-le-mul_right}
use Rattle.std.proofs.lemmas.List.{length-set}
use Rattle.odd_sets.proofs.Names.{nat_tests, cases_lt, eqb-true, eqb-false, eq-eqb, TableValue, IsTable, entry, after_set, MAX_DISTANCE, IsStored}

-- a cell of a lower row comes first
cell_before : (n a b x y : ℕ) → b < n → a < x → a * n + b < x * n + y
cell_before n a b x y h1 h2 = grind (arith, nat_tests, mul-le-mul_right)

-- neither row comes first
same_row : (n a b x y : ℕ) → b < n → y < n → x * n + y ≡ a * n + b → x ≡ a
same_row n a b x y low lower e = grind (arith, cell_before n a b x y low, cell_before n x y a b lower)

-- two places have a cell of their own
same_cell : (n a b x y : ℕ) → b < n → y < n → x * n + y ≡ a * n + b → (x ≡ a) × (y ≡ b)
same_cell n a b x y low lower e =
    let row : x ≡ a = same_row n a b x y low lower e in
    let there : a * n ≡ x * n = ap (λ (r : ℕ). r * n) (sym row) in
    (row, omega (arith, there))

pub in_cells : (n a b : ℕ) → a < n → b < n → a * n + b < n * n
in_cells n a b h1 h2 = grind (arith, nat_tests, mul-le-mul_right)

both_true : (p q : Bool) → (p && q) ≡ true → (p ≡ true) × (q ≡ true)
both_true true true e = (refl, refl)
both_true true false e = cc
both_true false q e = cc

set_same : (cells : List ℕ) (i k d : ℕ) → i < length cells → k ≡ i → get_or (set cells i d) k 0 ≡ d
set_same cells i k d low e = ap (λ (m : ℕ). get_or (set cells i d) m 0) e ∙ get_or-set_same cells i d 0 low

-- two places, in the one order or the other
abbrev IsPair : ℕ → ℕ → ℕ → ℕ → Type 0
IsPair u v x y = ((u ≡ x) × (v ≡ y)) ⊎ ((u ≡ y) × (v ≡ x))

-- the cells of two places are set
abbrev pub set_both : List ℕ → ℕ → ℕ → ℕ → List ℕ
set_both cells at back d = set (set cells at d) back d

other_case : (p : Bool) (cells : List ℕ) (i j k d : ℕ) → i < length cells → j < length cells → eqb k j ≡ p → k ≡ i
    → get_or (set_both cells i j d) k 0 ≡ d
other_case true cells i j k d low lower is e =
    set_same (set cells i d) j k d (omega (arith, lower, length-set cells i d)) (eqb-true k j is)
other_case false cells i j k d low lower is e =
    get_or-set_other (set cells i d) j k d 0 (eqb-false k j is) ∙ set_same cells i k d low e

set_either : (cells : List ℕ) (i j k d : ℕ) → i < length cells → j < length cells → (k ≡ i) ⊎ (k ≡ j)
    → get_or (set_both cells i j d) k 0 ≡ d
set_either cells i j k d low lower (inl e) = other_case (eqb k j) cells i j k d low lower refl e
set_either cells i j k d low lower (inr e) = set_same (set cells i d) j k d (omega (arith, lower, length-set cells i d)) e

swapped : {P Q : Type 0} → P ⊎ Q → Q ⊎ P
swapped (inl p) = inr p
swapped (inr q) = inl q

by_tests : (t s : Bool) (cells : List ℕ) (n a b d u v x y : ℕ) → length cells ≡ n * n → a < n → b < n → u < n → v < n → IsPair u v x y
    → (eqb x a && eqb y b) ≡ t → (eqb x b && eqb y a) ≡ s →
    get_or (set_both cells (a * n + b) (b * n + a) d) (u * n + v) 0 ≡ cond (t || s) d (get_or cells (u * n + v) 0)
by_tests true s cells n a b d u v x y len la lb lu lv pair e f =
    let both = both_true (eqb x a) (eqb y b) e in
    set_either cells (a * n + b) (b * n + a) (u * n + v) d (omega (arith, len, in_cells n a b la lb))
    (omega (arith, len, in_cells n b a lb la))
    (grind (arith, nat_tests, (eqb-true x a both.0), (eqb-true y b both.1)))
by_tests false true cells n a b d u v x y len la lb lu lv pair e f =
    let both = both_true (eqb x b) (eqb y a) f in
    set_either cells (a * n + b) (b * n + a) (u * n + v) d (omega (arith, len, in_cells n a b la lb))
    (omega (arith, len, in_cells n b a lb la))
    (swapped (grind (arith, nat_tests, (eqb-true x b both.0), (eqb-true y a both.1))))
by_tests false false cells n a b d u v x y len la lb lu lv pair e f =
    get_or-set_other (set cells (a * n + b) d) (b * n + a) (u * n + v) d 0
    (λ g. let s = same_cell n b a u v la lv g in grind (arith, nat_tests, eq-eqb, s.0, s.1))
    ∙ get_or-set_other cells (a * n + b) (u * n + v) d 0
    (λ g. let s = same_cell n a b u v lb lv g in grind (arith, nat_tests, eq-eqb, s.0, s.1))

ordered : (x y : ℕ) → (x < y) ⊎ (y ≤ x) → IsPair (min x y) (max x y) x y
ordered x y (inl less) = inl (omega (arith, less), omega (arith, less))
ordered x y (inr more) = inr (omega (arith, more), omega (arith, more))

abbrev set_cells : TableValue → ℕ → ℕ → ℕ → TableValue
set_cells t a b d = record { places = t.places; cells = set_both t.cells (a * t.places + b) (b * t.places + a) d }

entry-set_cells : (t : TableValue) → IsTable t → (a b d x y : ℕ) → a < t.places → b < t.places → x < t.places → y < t.places →
    entry (set_cells t a b d) x y ≡ after_set t a b d x y
entry-set_cells t is a b d x y la lb lx ly =
    by_tests (eqb x a && eqb y b) (eqb x b && eqb y a) t.cells t.places a b d (min x y) (max x y) x y is.filled la lb
    (omega (arith, lx, ly)) (omega (arith, lx, ly)) (ordered x y (cases_lt x y)) refl refl

direct-set_cells : (t : TableValue) → IsStored t → (a b d x y : ℕ) → a < t.places → b < t.places → x < t.places → y < t.places →
    get_or (set_cells t a b d).cells (x * t.places + y) 0 ≡ after_set t a b d x y
direct-set_cells t is a b d x y la lb lx ly =
    by_tests (eqb x a && eqb y b) (eqb x b && eqb y a) t.cells t.places a b d x y x y is.table.filled la lb lx ly
    (inl (refl, refl)) refl refl
    ∙ ap (λ (k : ℕ). cond ((eqb x a && eqb y b) || (eqb x b && eqb y a)) d k) (is.mirror x y lx ly)

-- the same where the cells have names
abbrev pub set_at : TableValue → ℕ → ℕ → ℕ → TableValue
set_at t at back d = record { places = t.places; cells = set_both t.cells at back d }

pub entry-set_at : (t : TableValue) → IsTable t → (a b d at back x y : ℕ) → at ≡ a * t.places + b → back ≡ b * t.places + a → a < t.places
    → b < t.places → x < t.places → y < t.places → entry (set_at t at back d) x y ≡ after_set t a b d x y
entry-set_at t is a b d at back x y e f la lb lx ly =
    ap (λ (k : ℕ). entry (set_at t k back d) x y) e ∙ ap (λ (k : ℕ). entry (set_at t (a * t.places + b) k d) x y) f
    ∙ entry-set_cells t is a b d x y la lb lx ly

pub set_at_stored : (t : TableValue) → IsStored t → (a b d at back : ℕ) → a ≢ b → at ≡ a * t.places + b → back ≡ b * t.places + a
    → a < t.places → b < t.places → d ≤ MAX_DISTANCE → IsStored (set_at t at back d)
set_at_stored t h1 a b d at back h2 h3 h4 h5 h6 h7 = grind (arith, nat_tests, length-set, direct-set_cells, entry-set_cells, eqb-true)

pub entry-comm : (t : TableValue) (a b : ℕ) → entry t a b ≡ entry t b a
entry-comm t a b = ap (slice_index t.cells) (turned a b t.places)
  where
    small : (a b : ℕ) → min a b ≡ min b a
    small a b = omega arith

    large : (a b : ℕ) → max a b ≡ max b a
    large a b = omega arith

    turned : (a b n : ℕ) → min a b * n + max a b ≡ min b a * n + max b a
    turned a b n = rw (small a b, large a b) refl
