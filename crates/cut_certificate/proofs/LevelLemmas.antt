-- The levels at which junctions enter the cuts of moats, and for each junction a terminal that puts it into every cut that holds it.
use Rattle.std.proofs.Common.{◌≡◌, ℕ, ◌+◌, ◌-◌, ◌*◌, ◌<◌, ◌≤◌, ◌⊎◌, min, List, [], ◌∷◌, length, Bool, true, false, ◌==◌, nat_lt, arith, inl, inr, refl, sym, ap, subst}
use Rattle.cut_certificate.proofs.Names.{nat_tests, both_ways, cases_Bool, cases_lt, eq-eqb, eqb-true, lt-ltb, ltb-true, or_cases, Moat, has_member, LiftInput, distance_beyond, depth, level, lowest, width_sum, or_right}
use Rattle.cut_certificate.proofs.MoatLemmas.{Apart, Disjoint, Fits, Inside, IsOf, above, not_in, parts, reach, related}

-- the least number is no more than the limit
pub lowest_most : (at : ℕ → ℕ) (limit : ℕ) (ts : List ℕ) → lowest at limit ts ≤ limit
lowest_most at limit [] = omega arith
lowest_most at limit (t ∷ ts) = omega (arith, lowest_most at limit ts)

-- at most the number at each of the terminals
pub lowest_by : (at : ℕ → ℕ) (limit t : ℕ) (ts : List ℕ) → has_member ts t ≡ true → lowest at limit ts ≤ at t
lowest_by at limit t [] h = absurd (both_ways false refl h)
lowest_by at limit t (x ∷ ts) h = elim (or_cases (t == x) (has_member ts t) h) [
  | inl same ↦ subst (λ (y : ℕ). min (at x) (lowest at limit ts) ≤ at y) (sym (eqb-true t x same)) (omega arith)
  | inr there ↦ omega (arith, lowest_by at limit t ts there)
]

pub at_front : (x : ℕ) (ts : List ℕ) → has_member (x ∷ ts) x ≡ true
at_front x ts = rw (eq-eqb x x refl) refl

-- a minimum below the limit is the number at one of the terminals
pub lowest_some : (at : ℕ → ℕ) (limit : ℕ) (ts : List ℕ) → lowest at limit ts < limit
    → (t : ℕ) × (has_member ts t ≡ true) × (lowest at limit ts ≡ at t)
lowest_some at limit [] h = absurd (omega arith)
lowest_some at limit (x ∷ ts) h = elim (cases_lt (lowest at limit ts) (at x)) [
  | inl less ↦
      let p = lowest_some at limit ts (omega arith) in
      (p.0, or_right (p.0 == x) (has_member ts p.0) p.1, omega (arith, p.2))
  | inr more ↦ (x, at_front x ts, omega arith)
]

-- a level is no more than the width
pub level_most : (g : LiftInput) (s : Moat) (j : ℕ) → level g s j ≤ s.width
level_most g s j = lowest_most (distance_beyond g s j) s.width s.members

-- nor more than how far the junction is beyond the smaller moats around each member
pub level_by : (g : LiftInput) (s : Moat) (j t : ℕ) → has_member s.members t ≡ true → level g s j ≤ 2 * g.least t j - depth g s t
level_by g s j t h = lowest_by (distance_beyond g s j) s.width t s.members h

-- below the width it is that much from one of the members
pub level_some : (g : LiftInput) (s : Moat) (j : ℕ) → level g s j < s.width
    → (t : ℕ) × (has_member s.members t ≡ true) × (level g s j ≡ 2 * g.least t j - depth g s t)
level_some g s j h = lowest_some (distance_beyond g s j) s.width s.members h

-- cuts of disjoint moats share no junction
pub no_share : (g : LiftInput) → Fits g → (a b : Moat) (j : ℕ) → j < g.size → IsOf g.moats a → IsOf g.moats b → Disjoint a b
    → level g a j < a.width → level g b j < b.width → ⊥
no_share g f a b j in_j is_a is_b d in_a in_b =
    let p = level_some g a j in_a in
    let q = level_some g b j in_b in
    let t = p.0 in
    let u = q.0 in
    let bounded = f.bounded t u (f.placed a is_a t p.1) (f.placed b is_b u q.1) in
    let joined = f.joined t u j (f.placed a is_a t p.1) (f.placed b is_b u q.1) in_j in
    let one : depth g a t + a.width ≤ width_sum (parts t u) g.moats = reach g f.laminar a t u is_a p.1
    (not_in b a u (λ x y z. d x z y) q.1) in
    let e = p.2 in
    let h = q.2 in
    omega (arith, reach g f.laminar b u t is_b q.1 (not_in a b t d p.1))

-- a cut of a moat lies inside each cut of a larger one around it
pub inner_full : (g : LiftInput) (a b : Moat) (j : ℕ) → IsOf g.moats a → Inside a b → level g a j < a.width → level g b j ≡ 0
inner_full g a b j is i in_a =
    let p = level_some g a j in_a in
    let e = p.2 in
    omega (arith, level_by g b j p.0 (i.1 p.0 p.1), above g a b p.0 is p.1 i.0)

-- the junction of a member is in all cuts of its moat
pub insider : (g : LiftInput) → Fits g → (a : Moat) (u : ℕ) → u < g.places → has_member a.members u ≡ true → level g a (g.spot u) ≡ 0
insider g f a u fits in_a = grind (arith, nat_tests, level_by g a (g.spot u) u in_a)

-- the junction of any other terminal is in no cut of the moat
pub outsider : (g : LiftInput) → Fits g → (a : Moat) (u : ℕ) → IsOf g.moats a → u < g.places → has_member a.members u ≡ false
    → level g a (g.spot u) ≡ a.width
outsider g f a u is fits out = grind (arith, nat_tests, cases_lt, level_some, parts, reach, level_most)

-- a terminal that puts a junction into every cut that holds it
pub record IsBest (g : LiftInput) (i t : ℕ) : Type 0 where
  pub inside : (m : Moat) → IsOf g.moats m → level g m i < m.width → has_member m.members t ≡ true
  pub first : (m : Moat) → IsOf g.moats m → level g m i < m.width → 2 * g.least t i - depth g m t ≤ level g m i

-- a moat that passes, and has no more members than any other that does
abbrev IsSmallest : (Moat → Bool) → List Moat → Type 0
IsSmallest p ms = (s : Moat) × IsOf ms s × (p s ≡ true) × ((m : Moat) → IsOf ms m → p m ≡ true → length s.members ≤ length m.members)

-- no moat passes
abbrev pub NonePasses : (Moat → Bool) → List Moat → Type 0
NonePasses p ms = (m : Moat) → IsOf ms m → p m ≡ false

pub none_here : (p : Moat → Bool) (x : Moat) (xs : List Moat) → p x ≡ false → NonePasses p xs → NonePasses p (x ∷ xs)
none_here p x xs e f m (inl same) = subst (λ (y : Moat). p y ≡ false) (sym same) e
none_here p x xs e f m (inr is) = f m is

first_here : (p : Moat → Bool) (x : Moat) (xs : List Moat) → NonePasses p xs → (m : Moat) → IsOf (x ∷ xs) m → p m ≡ true
    → length x.members ≤ length m.members
first_here p x xs f m (inl same) h = omega (arith, ap (λ (y : Moat). length y.members) same)
first_here p x xs f m (inr is) h = absurd (both_ways (p m) (f m is) h)

larger_here : (p : Moat → Bool) (x s : Moat) (xs : List Moat) → (p x ≡ true → length s.members ≤ length x.members)
    → ((m : Moat) → IsOf xs m → p m ≡ true → length s.members ≤ length m.members)
    → (m : Moat) → IsOf (x ∷ xs) m → p m ≡ true → length s.members ≤ length m.members
larger_here p x s xs le f m (inl same) h = grind (arith, nat_tests)
larger_here p x s xs le f m (inr is) h = f m is h

one_more : (p : Moat → Bool) (x : Moat) (xs : List Moat) → (p x ≡ true) ⊎ (p x ≡ false)
    → NonePasses p xs ⊎ IsSmallest p xs → NonePasses p (x ∷ xs) ⊎ IsSmallest p (x ∷ xs)
one_more p x xs (inr e) (inl f) = inl (none_here p x xs e f)
one_more p x xs (inl e) (inl f) = inr (x, inl refl, e, first_here p x xs f)
one_more p x xs (inr e) (inr s) = inr (s.0, inr s.1, s.2, larger_here p x s.0 xs (λ h. absurd (both_ways (p x) e h)) s.3)
one_more p x xs (inl e) (inr s) = grind (arith, nat_tests, cases_lt (length s.0.members) (length x.members))

smallest : (p : Moat → Bool) (ms : List Moat) → NonePasses p ms ⊎ IsSmallest p ms
smallest p [] = inl (λ m is. absurd is)
smallest p (x ∷ xs) = one_more p x xs (cases_Bool (p x)) (smallest p xs)

-- what puts a junction into the smallest moat of whose cuts one holds it puts it into all others
inside_all : (g : LiftInput) → Fits g → (i t : ℕ) (s m : Moat) → i < g.size → IsOf g.moats s → IsOf g.moats m → level g s i < s.width
    → has_member s.members t ≡ true → level g s i ≡ 2 * g.least t i - depth g s t → length s.members ≤ length m.members
    → level g m i < m.width → (m ≡ s) ⊎ Apart m s → (has_member m.members t ≡ true) × (2 * g.least t i - depth g m t ≤ level g m i)
inside_all g f i t s m in_i is_s is_m low has e le h (inl same) = grind (arith, nat_tests)
inside_all g f i t s m in_i is_s is_m low has e le h (inr (inl d)) = absurd (no_share g f m s i in_i is_m is_s d h low)
inside_all g f i t s m in_i is_s is_m low has e le h (inr (inr (inl j))) = absurd (omega (arith, j.0))
inside_all g f i t s m in_i is_s is_m low has e le h (inr (inr (inr j))) = grind (arith, nat_tests, above g s m t is_s has j.0)

-- either no cut holds the junction, or a terminal puts it into every cut that does
pub best : (g : LiftInput) → Fits g → (i : ℕ) → i < g.size
    → ((m : Moat) → IsOf g.moats m → m.width ≤ level g m i) ⊎ ((t : ℕ) × (t < g.places) × IsBest g i t)
best g f i in_i = elim (smallest (λ m. nat_lt (level g m i) m.width) g.moats) [
  | inl none ↦ inl (λ m is. elim (cases_lt (level g m i) m.width) [
    | inl less ↦ absurd (both_ways (nat_lt (level g m i) m.width) (none m is) (lt-ltb _ _ less))
    | inr more ↦ more
  ])
  | inr s ↦
      let low : level g s.0 i < s.0.width = ltb-true _ _ s.2 in
      let p = level_some g s.0 i low in
      let all = λ (m : Moat) (is : IsOf g.moats m) (h : level g m i < m.width). inside_all g f i p.0 s.0 m in_i s.1 is low p.1 p.2
      (s.3 m is (lt-ltb _ _ h)) h (related g.moats m s.0 f.laminar is s.1) in
      inr (p.0, f.placed s.0 s.1 p.0 p.1, record { inside = λ m is h. (all m is h).0; first = λ m is h. (all m is h).1 })
]
