-- A cut holds as many odd junctions as its moat has members, and nested moats of different sets have different sizes.
use Rattle.std.proofs.Common.{◌≡◌, ◌≢◌, ℕ, suc, ◌+◌, ◌<◌, ◌≤◌, ◌⊎◌, List, [], ◌∷◌, length, replicate, Bool, true, false, cond, ◌||◌, ◌==◌, arith, inl, inr, refl, sym, ◌∙◌, ap, subst}
use Rattle.cut_certificate.proofs.Names.{nat_tests, both_ways, cases_Bool, cases_eq, cases_lt, eq-eqb, eqb-true, ne_eqb, or_cases, count_by, if◌then◌else◌, slice_index, Moat, has_member, is_count_by, length-replicate}
use Rattle.cut_certificate.proofs.MoatLemmas.{Apart, Disjoint}
use Rattle.cut_certificate.proofs.LevelLemmas.{at_front}

-- no number is named twice
abbrev pub Differ : List ℕ → Type 0
Differ [] = Unit {0}
Differ (x ∷ xs) = (has_member xs x ≡ false) × Differ xs

-- each number is below n
abbrev pub Below : ℕ → List ℕ → Type 0
Below n [] = Unit {0}
Below n (x ∷ xs) = (x < n) × Below n xs

-- each of the numbers is one of the others
abbrev pub IsPart : List ℕ → List ℕ → Type 0
IsPart xs ys = (t : ℕ) → has_member xs t ≡ true → has_member ys t ≡ true

-- how many of the numbers are members
abbrev held : List ℕ → List ℕ → ℕ
held members [] = 0
held members (t ∷ ts) = cond (has_member members t) (1 + held members ts) (held members ts)

-- how many of the terminals from k on, as many as the list has, are members
abbrev tally : ℕ → List ℕ → List ℕ → ℕ
tally k xs [] = 0
tally k xs (t ∷ ts) = cond (has_member xs k) (1 + tally (k + 1) xs ts) (tally (k + 1) xs ts)

held_is : (members xs : List ℕ) (k : ℕ) (ts : List ℕ)
    → ((u : ℕ) → u < length ts → has_member members (slice_index ts u) ≡ has_member xs (k + u)) → held members ts ≡ tally k xs ts
held_is members xs k [] f = refl
held_is members xs k (t ∷ ts) f =
    let here : has_member members t ≡ has_member xs k = f 0 (omega arith) ∙ ap (has_member xs) (let e : k + 0 ≡ k = omega arith in e) in
    let rest : held members ts ≡ tally (k + 1) xs ts
    = held_is members xs (k + 1) ts (λ u lt. f (suc u) (omega arith) ∙ ap (has_member xs)
    (let e : k + suc u ≡ (k + 1) + u = omega arith in e)) in
    rw (here, rest) refl

tally_none : (k : ℕ) (ts : List ℕ) → tally k [] ts ≡ 0
tally_none k [] = refl
tally_none k (t ∷ ts) = tally_none (k + 1) ts

tally_past : (k x : ℕ) (xs ts : List ℕ) → x < k → tally k (x ∷ xs) ts ≡ tally k xs ts
tally_past k x xs [] lt = refl
tally_past k x xs (t ∷ ts) lt =
    let other : (k == x) ≡ false = ne_eqb k x (λ same. omega arith) in
    rw (other, tally_past (k + 1) x xs ts (omega arith)) refl

tally_one : (k x : ℕ) (xs ts : List ℕ) → k ≤ x → x < k + length ts → has_member xs x ≡ false → tally k (x ∷ xs) ts ≡ 1 + tally k xs ts
tally_one k x xs [] le lt none = absurd (omega arith)
tally_one k x xs (t ∷ ts) le lt none = elim (cases_eq k x) [
  | inl same ↦
      let here : (k == x) ≡ true = eq-eqb k x same in
      let not_here : has_member xs k ≡ false = ap (has_member xs) same ∙ none in
      rw (here, not_here, tally_past (k + 1) x xs ts (omega arith)) refl
  | inr other ↦
      let not_here : (k == x) ≡ false = ne_eqb k x other in
      rw (not_here, tally_one (k + 1) x xs ts (omega arith) (omega arith) none) (more (has_member xs k) (tally (k + 1) xs ts))
]
  where
    more : (b : Bool) (v : ℕ) → cond b (1 + (1 + v)) (1 + v) ≡ 1 + cond b (1 + v) v
    more true v = refl
    more false v = refl

tally_all : (xs ts : List ℕ) → Differ xs → Below (length ts) xs → tally 0 xs ts ≡ length xs
tally_all [] ts differ in_n = tally_none 0 ts
tally_all (x ∷ xs) ts differ in_n =
    omega (arith, tally_one 0 x xs ts (omega arith) (omega (arith, in_n.0)) differ.0, tally_all xs ts differ.1 in_n.1)

tally_most : (k : ℕ) (xs ts : List ℕ) → tally k xs ts ≤ length ts
tally_most k xs [] = omega arith
tally_most k xs (t ∷ ts) = elim (cases_Bool (has_member xs k)) [
  | inl has ↦ rw has (omega (arith, tally_most (k + 1) xs ts))
  | inr misses ↦ rw misses (omega (arith, tally_most (k + 1) xs ts))
]

-- different numbers below n are at most n
pub few_different : (n : ℕ) (xs : List ℕ) → Differ xs → Below n xs → length xs ≤ n
few_different n xs differ in_n =
    let zeros : List ℕ = replicate n 0 in
    let sized : length zeros ≡ n = length-replicate n 0 in
    omega (
      arith,
      tally_all xs zeros differ (subst (λ (k : ℕ). Below k xs) (sym sized) in_n),
      tally_most 0 xs zeros,
      sized,
    )

-- a cut that holds the junctions of a moat's members holds as many of them
pub as_many : (members xs ts : List ℕ) → ((u : ℕ) → u < length ts → has_member members (slice_index ts u) ≡ has_member xs u) → Differ xs
    → Below (length ts) xs → count_by (has_member members) ts ≡ length xs
as_many members xs ts f differ in_n =
    sym (is_count_by (held members) (has_member members) refl (λ x xs. refl) ts)
    ∙ held_is members xs 0 ts (λ u lt. f u lt ∙ ap (has_member xs) (let e : u ≡ 0 + u = omega arith in e))
    ∙ tally_all xs ts differ in_n

-- the numbers without the first that is x
abbrev remove : ℕ → List ℕ → List ℕ
remove x [] = []
remove x (y ∷ ys) = if x == y then ys else y ∷ remove x ys

remove_length : (x : ℕ) (ys : List ℕ) → has_member ys x ≡ true → length ys ≡ 1 + length (remove x ys)
remove_length x [] h = absurd (both_ways false refl h)
remove_length x (y ∷ ys) h = elim (cases_Bool (x == y)) [
  | inl same ↦ rw same (omega arith)
  | inr other ↦ let h' : has_member ys x ≡ true = rw other at h in rw other (omega (arith, remove_length x ys h'))
]

remove_other : (x t : ℕ) (ys : List ℕ) → t ≢ x → has_member ys t ≡ true → has_member (remove x ys) t ≡ true
remove_other x t [] ne h = h
remove_other x t (y ∷ ys) ne h = elim (or_cases (t == y) (has_member ys t) h) [
  | inl same ↦
      let not_x : (x == y) ≡ false = ne_eqb x y (λ e. ne (eqb-true t y same ∙ sym e)) in
      rw (not_x, same) refl
  | inr there ↦ elim (cases_Bool (x == y)) [
    | inl is ↦ rw is there
    | inr isnt ↦ rw isnt (later (t == y) (has_member (remove x ys) t) (remove_other x t ys ne there))
  ]
]
  where
    later : (a b : Bool) → b ≡ true → (a || b) ≡ true
    later true b h = refl
    later false b h = h

behind : (x t : ℕ) (xs : List ℕ) → has_member xs t ≡ true → has_member (x ∷ xs) t ≡ true
behind x t xs h = grind (arith, nat_tests)

rest_part : (x : ℕ) (xs ys : List ℕ) → has_member xs x ≡ false → IsPart (x ∷ xs) ys → IsPart xs (remove x ys)
rest_part x xs ys none part t h = grind (arith, nat_tests, remove_other, both_ways, behind)

-- a part is no longer
pub no_longer : (xs ys : List ℕ) → Differ xs → IsPart xs ys → length xs ≤ length ys
no_longer [] ys differ part = omega arith
no_longer (x ∷ xs) ys differ part =
    omega (
      arith,
      remove_length x ys (part x (at_front x xs)),
      no_longer xs (remove x ys) differ.1 (rest_part x xs ys differ.0 part),
    )

-- a part that is no shorter is all
all_of : (xs ys : List ℕ) → Differ xs → IsPart xs ys → length ys ≤ length xs → IsPart ys xs
all_of [] [] differ part le t h = h
all_of [] (y ∷ ys) differ part le t h = absurd (omega arith)
all_of (x ∷ xs) ys differ part le t h =
    let size = remove_length x ys (part x (at_front x xs)) in
    elim (cases_eq t x) [
      | inl same ↦ subst (λ (z : ℕ). has_member (x ∷ xs) z ≡ true) (sym same) (at_front x xs)
      | inr other ↦ behind x t xs
          (all_of xs (remove x ys) differ.1 (rest_part x xs ys differ.0 part) (omega arith) t (remove_other x t ys other h))
    ]

-- moats of different sets that are nested or disjoint
pub apart : (a b : Moat) → Differ a.members → Differ b.members → (IsPart a.members b.members → IsPart b.members a.members → ⊥)
    → Disjoint a b ⊎ (IsPart a.members b.members ⊎ IsPart b.members a.members) → Apart a b
apart a b da db differ (inl d) = inl d
apart a b da db differ (inr (inl p)) = grind (arith, nat_tests, cases_lt, all_of)
apart a b da db differ (inr (inr p)) = elim (cases_lt (length b.members) (length a.members)) [
  | inl less ↦ inr (inr (less, p))
  | inr more ↦ absurd (differ (all_of b.members a.members db p more) p)
]
