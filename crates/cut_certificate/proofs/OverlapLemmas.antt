-- The levels of the moats around one terminal don't overlap.
use Rattle.std.proofs.Common.{◌≡◌, ℕ, ◌+◌, ◌-◌, ◌≤◌, ◌⊎◌, min, max, List, [], ◌∷◌, true, arith, inl, inr, refl}
use Rattle.cut_certificate.proofs.Names.{nat_tests, cases_Bool, if◌then◌else◌, Moat, has_member, LiftInput, depth}
use Rattle.cut_certificate.proofs.MoatLemmas.{Apart, ApartFromAll, IsOf, Laminar, above}

-- how much is above both lower limits and below both upper ones
abbrev pub overlap : (low high from to : ℕ) → ℕ
overlap low high from to = min high to - max low from

-- how much of the levels of a moat above a terminal is within limits
abbrev pub part_at : LiftInput → (t from to : ℕ) → Moat → ℕ
part_at g t from to m = if has_member m.members t then overlap (depth g m t) (depth g m t + m.width) from to else 0

-- the same for all of the moats
abbrev pub overlaps : LiftInput → (t from to : ℕ) → List Moat → ℕ
overlaps g t from to [] = 0
overlaps g t from to (m ∷ ms) = part_at g t from to m + overlaps g t from to ms

split_up : (lo hi lo' hi' x y : ℕ) → lo ≤ hi → lo' ≤ hi' → (hi ≤ lo') ⊎ (hi' ≤ lo)
    → overlap lo' hi' x y ≤ overlap lo' hi' x (min lo y) + overlap lo' hi' (max hi x) y
split_up lo hi lo' hi' x y one two (inl up) = omega arith
split_up lo hi lo' hi' x y one two (inr down) = omega arith

whole : (lo hi x y a b : ℕ) → lo ≤ hi → a ≤ min lo y - x → b ≤ y - max hi x → overlap lo hi x y + (a + b) ≤ y - x
whole lo hi x y a b h k l = omega arith

beside : (g : LiftInput) (t : ℕ) (m s : Moat) → IsOf g.moats m → IsOf g.moats s → has_member m.members t ≡ true
    → has_member s.members t ≡ true → Apart m s → (depth g m t + m.width ≤ depth g s t) ⊎ (depth g s t + s.width ≤ depth g m t)
beside g t m s is_m is_s in_m in_s (inl d) = absurd (d t in_m in_s)
beside g t m s is_m is_s in_m in_s (inr (inl i)) = inl (above g m s t is_m in_m i.0)
beside g t m s is_m is_s in_m in_s (inr (inr i)) = inr (above g s m t is_s in_s i.0)

part_split : (g : LiftInput) (t x y : ℕ) (m s : Moat) → IsOf g.moats m → IsOf g.moats s → has_member m.members t ≡ true → Apart m s
    → part_at g t x y s ≤ part_at g t x (min (depth g m t) y) s + part_at g t (max (depth g m t + m.width) x) y s
part_split g t x y m s is_m is_s in_m apart = grind (arith, nat_tests, cases_Bool, split_up, beside)

rest_split : (g : LiftInput) (t x y : ℕ) (m : Moat) (ms : List Moat) → IsOf g.moats m → ((s : Moat) → IsOf ms s → IsOf g.moats s)
    → has_member m.members t ≡ true → ApartFromAll m ms
    → overlaps g t x y ms ≤ overlaps g t x (min (depth g m t) y) ms + overlaps g t (max (depth g m t + m.width) x) y ms
rest_split g t x y m [] is f in_m apart = omega arith
rest_split g t x y m (s ∷ ms) is f in_m apart =
    omega (arith, part_split g t x y m s is (f s (inl refl)) in_m apart.0, rest_split g t x y m ms is (λ z h. f z (inr h)) in_m apart.1)

-- together they have no more within limits than these leave room for
pub overlaps_fit : (g : LiftInput) (t x y : ℕ) (ms : List Moat) → ((s : Moat) → IsOf ms s → IsOf g.moats s) → Laminar ms
    → overlaps g t x y ms ≤ y - x
overlaps_fit g t x y [] f l = omega arith
overlaps_fit g t x y (m ∷ ms) f l =
    elim (cases_Bool (has_member m.members t)) [
      | inl has ↦
          let left = overlaps_fit g t x (min (depth g m t) y) ms (λ z h. f z (inr h)) l.1 in
          let right = overlaps_fit g t (max (depth g m t + m.width) x) y ms (λ z h. f z (inr h)) l.1 in
          let both = rest_split g t x y m ms (f m (inl refl)) (λ z h. f z (inr h)) has l.0 in
          let all = whole (depth g m t) (depth g m t + m.width) x y _ _ (omega arith) left right in
          rw has (omega (arith, both, all))
      | inr misses ↦ rw misses (omega (arith, overlaps_fit g t x y ms (λ z h. f z (inr h)) l.1))
    ]
