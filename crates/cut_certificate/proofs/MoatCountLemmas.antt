-- Laminar moats are at most twice as many as their terminals: each owns a number, its least member or one more than the terminals, for
-- its least member beyond the largest smaller moat around the first.
use Rattle.std.proofs.Common.{◌≡◌, ℕ, zero, suc, ◌+◌, ◌*◌, ◌<◌, ◌≤◌, ◌⊎◌, List, [], ◌∷◌, length, Bool, true, false, not, ◌&&◌, ◌==◌, arith, inl, inr, refl, sym, subst}
use Rattle.cut_certificate.proofs.Names.{nat_tests, and_from, and_parts, both_ways, cases_Bool, cases_lt, eqb-true, lt-ltb, ltb-true, or_cases, Moat, has_member, LiftInput, is_inner}
use Rattle.cut_certificate.proofs.HeldLemmas.{Below, Differ, IsPart, few_different, no_longer}
use Rattle.cut_certificate.proofs.LevelLemmas.{NonePasses, at_front, none_here}
use Rattle.cut_certificate.proofs.MoatLemmas.{Apart, Fits, Inside, IsOf, Laminar, one_apart, related}

-- the least number that passes, if one below n does
least_at : (p : ℕ → Bool) (n : ℕ)
    → ((u : ℕ) → u < n → p u ≡ false) ⊎ ((t : ℕ) × (t < n) × (p t ≡ true) × ((u : ℕ) → u < t → p u ≡ false))
least_at p zero = inl (λ u lt. absurd (omega (arith, lt)))
least_at p (suc n) = elim (least_at p n) [
  | inl none ↦ elim (cases_Bool (p n)) [
    | inl is ↦ inr (n, omega arith, is, none)
    | inr isnt ↦ inl (λ u lt. elim (cases_lt u n) [
      | inl less ↦ none u less
      | inr more ↦ subst (λ (z : ℕ). p z ≡ false) (let e : n ≡ u = omega (arith, lt, more) in e) isnt
    ])
  ]
  | inr t ↦ inr (t.0, omega (arith, t.1), t.2, t.3)
]

-- those that pass have at most so many members
bound_of : (p : Moat → Bool) (x : Moat) (xs : List Moat) (n : ℕ) → (p x ≡ true → length x.members ≤ n)
    → ((m : Moat) → IsOf xs m → p m ≡ true → length m.members ≤ n)
    → (m : Moat) → IsOf (x ∷ xs) m → p m ≡ true → length m.members ≤ n
bound_of p x xs n here there m (inl same) h =
    subst (λ (y : Moat). length y.members ≤ n) (sym same) (here (subst (λ (y : Moat). p y ≡ true) same h))
bound_of p x xs n here there m (inr is) h = there m is h

-- a moat that passes, and has no fewer members than any other that does
abbrev IsLargest : (Moat → Bool) → List Moat → Type 0
IsLargest p ms = (s : Moat) × IsOf ms s × (p s ≡ true) × ((m : Moat) → IsOf ms m → p m ≡ true → length m.members ≤ length s.members)

one_more : (p : Moat → Bool) (x : Moat) (xs : List Moat) → (p x ≡ true) ⊎ (p x ≡ false)
    → NonePasses p xs ⊎ IsLargest p xs → NonePasses p (x ∷ xs) ⊎ IsLargest p (x ∷ xs)
one_more p x xs (inr e) (inl f) = inl (none_here p x xs e f)
one_more p x xs (inl e) (inl f) =
    inr (x, inl refl, e, bound_of p x xs (length x.members) (λ h. omega arith) (λ m is h. absurd (both_ways (p m) (f m is) h)))
one_more p x xs (inr e) (inr s) =
    inr (s.0, inr s.1, s.2, bound_of p x xs (length s.0.members) (λ h. absurd (both_ways (p x) e h)) s.3)
one_more p x xs (inl e) (inr s) = elim (cases_lt (length x.members) (length s.0.members)) [
  | inl less ↦ inr (s.0, inr s.1, s.2, bound_of p x xs (length s.0.members) (λ h. omega (arith, less)) s.3)
  | inr more ↦ inr (x, inl refl, e, bound_of p x xs (length x.members) (λ h. omega arith) (λ m is h. omega (arith, more, s.3 m is h)))
]

largest : (p : Moat → Bool) (ms : List Moat) → NonePasses p ms ⊎ IsLargest p ms
largest p [] = inl (λ m is. absurd is)
largest p (x ∷ xs) = one_more p x xs (cases_Bool (p x)) (largest p xs)

-- the least member of a moat
record IsLeast (m : Moat) (t : ℕ) : Type 0 where
  holds : has_member m.members t ≡ true
  least : (u : ℕ) → u < t → has_member m.members u ≡ false

-- the least member of a moat, which no moat inside holds
record IsFirst (g : LiftInput) (m : Moat) (t : ℕ) : Type 0 where
  least : IsLeast m t
  none : (s : Moat) → IsOf g.moats s → Inside s m → has_member s.members t ≡ true → ⊥

-- the least member of a moat beyond the largest moat inside that holds its least one
record IsNext (g : LiftInput) (m : Moat) (u : ℕ) : Type 0 where
  t : ℕ
  least : IsLeast m t
  s : Moat
  is : IsOf g.moats s
  inside : Inside s m
  holds : has_member s.members t ≡ true
  largest : (r : Moat) → IsOf g.moats r → Inside r m → has_member r.members t ≡ true → length r.members ≤ length s.members
  new : has_member m.members u ≡ true
  out : has_member s.members u ≡ false
  first : (v : ℕ) → v < u → has_member m.members v ≡ true → has_member s.members v ≡ true

-- the number that a moat owns
abbrev Owns : LiftInput → Moat → ℕ → Type 0
Owns g m c = ((c < g.places) × IsFirst g m c) ⊎ ((u : ℕ) × (c ≡ g.places + u) × IsNext g m u)

-- the inner one of two nested moats has another next member
nested_next : (g : LiftInput) → Fits g → (a b : Moat) (u : ℕ) → IsOf g.moats a → Inside a b → IsNext g a u → IsNext g b u → ⊥
nested_next g f a b u is_a i x y = elim (cases_Bool (has_member y.s.members x.t)) [
  | inl has ↦ elim (related g.moats y.s a f.laminar y.is is_a) [
    | inl same ↦ both_ways (has_member y.s.members u) y.out (subst (λ (z : Moat). has_member z.members u ≡ true) (sym same) x.new)
    | inr (inl d) ↦ d x.t has x.least.holds
    | inr (inr (inl j)) ↦ absurd (omega (arith, j.0, y.largest a is_a i (j.1 y.t y.holds)))
    | inr (inr (inr j)) ↦ both_ways (has_member y.s.members u) y.out (j.1 u x.new)
  ]
  | inr misses ↦ elim (cases_lt x.t u) [
    | inl less ↦ both_ways (has_member y.s.members x.t) misses (y.first x.t less (i.1 x.t x.least.holds))
    | inr more ↦ elim (cases_lt u x.t) [
      | inl before ↦ both_ways (has_member a.members u) (x.least.least u before) x.new
      | inr after ↦ both_ways (has_member x.s.members u) x.out
          (subst (λ (z : ℕ). has_member x.s.members z ≡ true) (let e : x.t ≡ u = omega (arith, more, after) in e) x.holds)
    ]
  ]
]

-- no two moats that are apart own one number
own_one : (g : LiftInput) → Fits g → (a b : Moat) (c : ℕ) → IsOf g.moats a → IsOf g.moats b → Apart a b → Owns g a c → Owns g b c → ⊥
own_one g f a b c is_a is_b (inl d) (inl x) (inl y) = d c x.1.least.holds y.1.least.holds
own_one g f a b c is_a is_b (inr (inl i)) (inl x) (inl y) = y.1.none a is_a i x.1.least.holds
own_one g f a b c is_a is_b (inr (inr i)) (inl x) (inl y) = x.1.none b is_b i y.1.least.holds
own_one g f a b c is_a is_b apart (inl x) (inr y) = omega (arith, x.0, y.1)
own_one g f a b c is_a is_b apart (inr x) (inl y) = omega (arith, y.0, x.1)
own_one g f a b c is_a is_b apart (inr x) (inr y) =
    next apart (subst (λ (z : ℕ). IsNext g b z) (let e : y.0 ≡ x.0 = omega (arith, x.1, y.1) in e) y.2)
  where
    next : Apart a b → IsNext g b x.0 → ⊥
    next (inl d) z = d x.0 x.2.new z.new
    next (inr (inl i)) z = nested_next g f a b x.0 is_a i x.2 z
    next (inr (inr i)) z = nested_next g f b a x.0 is_b i z x.2

-- different numbers, one that each moat owns
record AreOwned (g : LiftInput) (ms : List Moat) : Type 0 where
  codes : List ℕ
  sized : length codes ≡ length ms
  differ : Differ codes
  owned : (c : ℕ) → has_member codes c ≡ true → (m : Moat) × IsOf ms m × Owns g m c

owned_by : (g : LiftInput) → Fits g → (ms : List Moat) → ((m : Moat) → IsOf ms m → IsOf g.moats m)
    → ((m : Moat) → IsOf ms m → (c : ℕ) × Owns g m c) → Laminar ms → AreOwned g ms
owned_by g f [] part owner l = record { codes = []; sized = refl; differ = tt; owned = λ c h. absurd (both_ways false refl h) }
owned_by g f (m ∷ ms) part owner l =
    let more = owned_by g f ms (λ x is. part x (inr is)) (λ x is. owner x (inr is)) l.1 in
    let own = owner m (inl refl) in
    record {
      codes = own.0 ∷ more.codes;
      sized = omega (arith, more.sized);
      differ = (
        elim (cases_Bool (has_member more.codes own.0)) [
          | inl has ↦
              let other = more.owned own.0 has in
              absurd (own_one g f m other.0 own.0 (part m (inl refl)) (part other.0 (inr other.1)) (one_apart m ms other.0 l.0 other.1)
              own.1 other.2)
          | inr misses ↦ misses
        ],
        more.differ,
      );
      owned = λ c h. elim (or_cases (c == own.0) (has_member more.codes c) h) [
        | inl same ↦ (m, inl refl, subst (λ (z : ℕ). Owns g m z) (sym (eqb-true c own.0 same)) own.1)
        | inr there ↦ let other = more.owned c there in (other.0, inr other.1, other.2)
      ];
    }

some_member : (xs : List ℕ) → 1 ≤ length xs → (x : ℕ) × (has_member xs x ≡ true)
some_member [] le = absurd (omega (arith, le))
some_member (x ∷ xs) le = (x, at_front x xs)

first_member : (g : LiftInput) → Fits g → (m : Moat) → IsOf g.moats m → 1 ≤ length m.members → (t : ℕ) × (t < g.places) × IsLeast m t
first_member g f m is some = elim (least_at (has_member m.members) g.places) [
  | inl none ↦
      let x = some_member m.members some in
      absurd (both_ways (has_member m.members x.0) (none x.0 (f.placed m is x.0 x.1)) x.1)
  | inr t ↦ (t.0, t.1, record { holds = t.2; least = t.3 })
]

beyond : (a b : Bool) → (a && not b) ≡ false → a ≡ true → b ≡ true
beyond true true h is = refl
beyond true false h is = absurd (both_ways true h refl)
beyond false b h is = absurd (both_ways false refl is)

-- a smaller moat that holds a member lies inside
inner : (g : LiftInput) → Fits g → (s m : Moat) (t : ℕ) → IsOf g.moats s → IsOf g.moats m → has_member m.members t ≡ true
    → is_inner m t s ≡ true → Inside s m
inner g f s m t is_s is_m in_m h =
    let both = and_parts (has_member s.members t) _ h in
    let less : length s.members < length m.members = ltb-true _ _ both.1 in
    elim (related g.moats s m f.laminar is_s is_m) [
      | inl same ↦ absurd (omega (arith, less, subst (λ (z : Moat). length z.members ≤ length s.members) same (omega arith)))
      | inr (inl d) ↦ absurd (d t both.0 in_m)
      | inr (inr (inl i)) ↦ i
      | inr (inr (inr i)) ↦ absurd (omega (arith, less, i.0))
    ]

-- each moat owns a number
owner_of : (g : LiftInput) → Fits g → (m : Moat) → IsOf g.moats m → Differ m.members → 1 ≤ length m.members → (c : ℕ) × Owns g m c
owner_of g f m is differ some =
    let t = first_member g f m is some in
    elim (largest (is_inner m t.0) g.moats) [
      | inl none ↦ (
        t.0,
        inl (
          t.1,
          record {
            least = t.2;
            none = λ s is_s i h. both_ways (is_inner m t.0 s) (none s is_s) (and_from (has_member s.members t.0) _ h (lt-ltb _ _ i.0));
          },
        ),
      )
      | inr s ↦ next t.0 t.2 s.0 s.1 (inner g f s.0 m t.0 s.1 is t.2.holds s.2)
          (and_parts (has_member s.0.members t.0) _ s.2).0
          (λ r is_r i h. s.3 r is_r (and_from (has_member r.members t.0) _ h (lt-ltb _ _ i.0)))
    ]
  where
    next : (t : ℕ) → IsLeast m t → (s : Moat) → IsOf g.moats s → Inside s m → has_member s.members t ≡ true
        → ((r : Moat) → IsOf g.moats r → Inside r m → has_member r.members t ≡ true → length r.members ≤ length s.members)
        → (c : ℕ) × Owns g m c
    next t least s is_s i holds all =
        elim (least_at (λ v. has_member m.members v && not (has_member s.members v)) g.places) [
          | inl none ↦
              let part : IsPart m.members s.members
              = λ v h. beyond (has_member m.members v) (has_member s.members v) (none v (f.placed m is v h)) h in
              absurd (omega (arith, i.0, no_longer m.members s.members differ part))
          | inr u ↦ (
            g.places + u.0,
            inr (
              u.0,
              refl,
              record {
                t = t;
                least = least;
                s = s;
                is = is_s;
                inside = i;
                holds = holds;
                largest = all;
                new = (and_parts (has_member m.members u.0) _ u.2).0;
                out = turned (has_member s.members u.0) (and_parts (has_member m.members u.0) _ u.2).1;
                first = λ v lt h. beyond (has_member m.members v) (has_member s.members v) (u.3 v lt) h;
              },
            ),
          )
        ]
      where
        turned : (b : Bool) → not b ≡ true → b ≡ false
        turned true h = absurd (both_ways false refl h)
        turned false h = refl

owned_below : (g : LiftInput) → Fits g → (m : Moat) (c : ℕ) → IsOf g.moats m → Owns g m c → c < 2 * g.places
owned_below g f m c is (inl x) = omega (arith, x.0)
owned_below g f m c is (inr x) = omega (arith, x.1, f.placed m is x.0 x.2.new)

all_below : (n : ℕ) (xs : List ℕ) → ((x : ℕ) → has_member xs x ≡ true → x < n) → Below n xs
all_below n [] f = tt
all_below n (x ∷ xs) f = (f x (at_front x xs), all_below n xs (λ y h. f y (later y h)))
  where
    later : (y : ℕ) → has_member xs y ≡ true → has_member (x ∷ xs) y ≡ true
    later y h = grind (arith, nat_tests)

-- moats are at most twice as many as terminals
pub few_moats : (g : LiftInput) → Fits g → ((m : Moat) → IsOf g.moats m → Differ m.members × (1 ≤ length m.members))
    → length g.moats ≤ 2 * g.places
few_moats g f each =
    let all = owned_by g f g.moats (λ m is. is) (λ m is. owner_of g f m is (each m is).0 (each m is).1) f.laminar in
    omega (
      arith,
      all.sized,
      few_different (2 * g.places) all.codes all.differ
          (all_below (2 * g.places) all.codes (λ c h. let o = all.owned c h in owned_below g f o.0 c o.1 o.2)),
    )
