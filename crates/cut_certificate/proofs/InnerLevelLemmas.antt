-- How many junctions enter the cuts of moats between 0 and the width: each those of one moat at most.
use Rattle.std.proofs.Common.{◌≡◌, ℕ, zero, suc, ◌+◌, ◌<◌, ◌≤◌, ◌&&◌, min, List, [], ◌∷◌, length, Bool, true, false, nat_lt, arith, inl, inr, refl, ◌∙◌, ap}
use Rattle.cut_certificate.specs.MoatCuts.{levels_below}
use Rattle.cut_certificate.proofs.Names.{nat_tests, and_parts, cases_Bool, if◌then◌else◌, ltb-true, slice_index, Moat, LiftInput, level, AreDistancesFrom}
use Rattle.cut_certificate.proofs.LevelLemmas.{inner_full, no_share}
use Rattle.cut_certificate.proofs.MoatDistanceLemmas.{level_is}
use Rattle.cut_certificate.proofs.MoatLemmas.{Apart, ApartFromAll, Fits, IsOf, Laminar}

-- the junction enters the cuts of the moat between 0 and the width
abbrev is_inner_level : LiftInput → Moat → ℕ → Bool
is_inner_level g s j = nat_lt 0 (level g s j) && nat_lt (level g s j) s.width

abbrev inner_at : LiftInput → Moat → ℕ → ℕ
inner_at g s j = if is_inner_level g s j then 1 else 0

-- how many junctions from k on do
abbrev inner_from : LiftInput → Moat → (k count : ℕ) → ℕ
inner_from g s k zero = 0
inner_from g s k (suc count) = inner_at g s k + inner_from g s (k + 1) count

-- the same for all of the moats
abbrev pub inners : LiftInput → List Moat → ℕ
inners g [] = 0
inners g (m ∷ ms) = inner_from g m 0 g.size + inners g ms

-- for one junction, and for those from k on
abbrev inner_ones : LiftInput → List Moat → ℕ → ℕ
inner_ones g [] j = 0
inner_ones g (m ∷ ms) j = inner_at g m j + inner_ones g ms j

abbrev ones_from : LiftInput → List Moat → (k count : ℕ) → ℕ
ones_from g ms k zero = 0
ones_from g ms k (suc count) = inner_ones g ms k + ones_from g ms (k + 1) count

one_level : (w l e : ℕ) → min w l ≡ e → (if nat_lt 0 l && nat_lt l w then 1 else 0) ≤ (if nat_lt 0 e && nat_lt e w then 1 else 0)
one_level w l e is = grind (arith, nat_tests)

levels_inner : (g : LiftInput) (s : Moat) (k : ℕ) (ls : List ℕ)
    → ((j : ℕ) → j < length ls → min s.width (slice_index ls j) ≡ level g s (k + j))
    → levels_below s.width ls ≤ inner_from g s k (length ls)
levels_inner g s k [] f = omega arith
levels_inner g s k (l ∷ ls) f =
    let here : min s.width l ≡ level g s k = f 0 (omega arith) ∙ ap (level g s) (let e : k + 0 ≡ k = omega arith in e) in
    let rest = levels_inner g s (k + 1) ls (λ j lt. f (suc j) (omega (arith, lt))
    ∙ ap (level g s) (let e : k + suc j ≡ (k + 1) + j = omega arith in e)) in
    omega (arith, one_level s.width l (level g s k) here, rest)

-- a moat has one cut more than inner levels at most
pub few_inner : (g : LiftInput) (s : Moat) (reach : List ℕ) (count : ℕ) → AreDistancesFrom g s reach
    → count ≤ (if nat_lt 0 s.width then 1 else 0) + levels_below s.width reach → count ≤ 1 + inner_from g s 0 g.size
few_inner g s reach count is few =
    let most = levels_inner g s 0 reach
    (λ j lt. level_is g s reach j is (omega (arith, lt, is.sized)) ∙ ap (level g s) (let e : j ≡ 0 + j = omega arith in e)) in
    let same : inner_from g s 0 (length reach) ≡ inner_from g s 0 g.size = ap (inner_from g s 0) is.sized in
    omega (arith, few, at_most (nat_lt 0 s.width), most, same)
  where
    at_most : (b : Bool) → (if b then 1 else 0) ≤ 1
    at_most true = omega arith
    at_most false = omega arith

swap_one : (g : LiftInput) (m : Moat) (ms : List Moat) (k n : ℕ) → inner_from g m k n + ones_from g ms k n ≡ ones_from g (m ∷ ms) k n
swap_one g m ms k zero = refl
swap_one g m ms k (suc n) = omega (arith, swap_one g m ms (k + 1) n)

no_ones : (g : LiftInput) (k n : ℕ) → ones_from g [] k n ≡ 0
no_ones g k zero = refl
no_ones g k (suc n) = omega (arith, no_ones g (k + 1) n)

swapped : (g : LiftInput) (ms : List Moat) → inners g ms ≡ ones_from g ms 0 g.size
swapped g [] = omega (arith, no_ones g 0 g.size)
swapped g (m ∷ ms) = omega (arith, swapped g ms, swap_one g m ms 0 g.size)

-- no junction does so for two moats that are apart
only_one : (g : LiftInput) → Fits g → (a b : Moat) (j : ℕ) → j < g.size → IsOf g.moats a → IsOf g.moats b → Apart a b
    → is_inner_level g a j ≡ true → is_inner_level g b j ≡ true → ⊥
only_one g f a b j in_j is_a is_b apart h k =
    let x = and_parts (nat_lt 0 (level g a j)) _ h in
    let y = and_parts (nat_lt 0 (level g b j)) _ k in
    go apart (ltb-true _ _ x.0) (ltb-true _ _ x.1) (ltb-true _ _ y.0) (ltb-true _ _ y.1)
  where
    go : Apart a b → 0 < level g a j → level g a j < a.width → 0 < level g b j → level g b j < b.width → ⊥
    go (inl d) some_a low_a some_b low_b = no_share g f a b j in_j is_a is_b d low_a low_b
    go (inr (inl i)) some_a low_a some_b low_b = omega (arith, inner_full g a b j is_a i low_a, some_b)
    go (inr (inr i)) some_a low_a some_b low_b = omega (arith, inner_full g b a j is_b i low_b, some_a)

none_else : (g : LiftInput) → Fits g → (m : Moat) (j : ℕ) (ms : List Moat) → j < g.size → IsOf g.moats m
    → ((s : Moat) → IsOf ms s → IsOf g.moats s) → ApartFromAll m ms → is_inner_level g m j ≡ true → inner_ones g ms j ≡ 0
none_else g f m j [] in_j is part apart h = refl
none_else g f m j (x ∷ xs) in_j is part apart h = elim (cases_Bool (is_inner_level g x j)) [
  | inl has ↦ absurd (only_one g f m x j in_j is (part x (inl refl)) apart.0 h has)
  | inr misses ↦ rw misses (omega (arith, none_else g f m j xs in_j is (λ s h. part s (inr h)) apart.1 h))
]

one_at_most : (g : LiftInput) → Fits g → (j : ℕ) (ms : List Moat) → j < g.size → ((s : Moat) → IsOf ms s → IsOf g.moats s) → Laminar ms
    → inner_ones g ms j ≤ 1
one_at_most g f j [] in_j part l = omega arith
one_at_most g f j (m ∷ ms) in_j part l = elim (cases_Bool (is_inner_level g m j)) [
  | inl has ↦ rw has (omega (arith, none_else g f m j ms in_j (part m (inl refl)) (λ s h. part s (inr h)) l.0 has))
  | inr misses ↦ rw misses (omega (arith, one_at_most g f j ms in_j (λ s h. part s (inr h)) l.1))
]

one_each : (g : LiftInput) → Fits g → (k n : ℕ) → k + n ≤ g.size → ones_from g g.moats k n ≤ n
one_each g f k zero le = omega arith
one_each g f k (suc n) le =
    omega (arith, one_at_most g f k g.moats (omega (arith, le)) (λ s h. h) f.laminar, one_each g f (k + 1) n (omega (arith, le)))

-- all moats together have no more inner levels than there are junctions
pub few_inners : (g : LiftInput) → Fits g → inners g g.moats ≤ g.size
few_inners g f = omega (arith, swapped g g.moats, one_each g f 0 g.size (omega arith))
