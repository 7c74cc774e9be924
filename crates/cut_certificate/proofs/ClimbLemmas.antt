-- An edge crosses no more of the cuts than two halves for each of its steps.
use Rattle.std.proofs.Common.{◌≡◌, ℕ, ◌+◌, ◌-◌, ◌*◌, ◌<◌, ◌≤◌, ◌⊎◌, List, [], ◌∷◌, true, arith, inl, inr, refl}
use Rattle.cut_certificate.proofs.Names.{nat_tests, cases_lt, Moat, has_member, LiftInput, depth, level, width_sum}
use Rattle.cut_certificate.proofs.LevelLemmas.{IsBest, best, inner_full, level_by, level_most}
use Rattle.cut_certificate.proofs.MoatLemmas.{Apart, Disjoint, Fits, IsOf, not_in, parts, reach, related}
use Rattle.cut_certificate.proofs.OverlapLemmas.{overlaps, overlaps_fit, part_at}

-- how many halves of the cuts of these moats hold i and not j
abbrev pub climb : LiftInput → (i j : ℕ) → List Moat → ℕ
climb g i j [] = 0
climb g i j (m ∷ rest) = (level g m j - level g m i) + climb g i j rest

-- the costs of two junctions from each terminal differ by no more than that
pub record IsLine (g : LiftInput) (i j c : ℕ) : Type 0 where
  pub forth : (t : ℕ) → t < g.places → g.least t j ≤ g.least t i + c
  pub back : (t : ℕ) → t < g.places → g.least t i ≤ g.least t j + c

-- one moat's share of the cuts that hold i and not j
climb_at : (g : LiftInput) (i j t y : ℕ) → IsBest g i t → (m : Moat) → IsOf g.moats m
    → (level g m i < level g m j → depth g m t + level g m j ≤ y) → level g m j - level g m i ≤ part_at g t (2 * g.least t i) y m
climb_at g i j t y best m is top = grind (arith, nat_tests, cases_lt, level_most, best)

climb_fits : (g : LiftInput) (i j t y : ℕ) → IsBest g i t → (ms : List Moat) → ((m : Moat) → IsOf ms m → IsOf g.moats m)
    → ((m : Moat) → IsOf ms m → level g m i < level g m j → depth g m t + level g m j ≤ y)
    → climb g i j ms ≤ overlaps g t (2 * g.least t i) y ms
climb_fits g i j t y b [] f top = omega arith
climb_fits g i j t y b (m ∷ ms) f top =
    grind (
      arith,
      nat_tests,
      climb_at g i j t y b m (f m (inl refl)) (top m (inl refl)),
      climb_fits g i j t y b ms (λ z h. f z (inr h))
          (λ z h. top z (inr h)),
    )

climb_below : (g : LiftInput) → Fits g → (i j t y : ℕ) → IsBest g i t
    → ((m : Moat) → IsOf g.moats m → level g m i < level g m j → depth g m t + level g m j ≤ y) → climb g i j g.moats ≤ y - 2 * g.least t i
climb_below g f i j t y b top =
    omega (arith, climb_fits g i j t y b g.moats (λ z h. h) top, overlaps_fit g t (2 * g.least t i) y g.moats (λ z h. h) f.laminar)

-- no cut holds i
no_climb : (g : LiftInput) (i j : ℕ) (ms : List Moat) → ((m : Moat) → IsOf ms m → m.width ≤ level g m i) → climb g i j ms ≡ 0
no_climb g i j [] f = refl
no_climb g i j (m ∷ ms) f =
    let here = f m (inl refl) in
    omega (arith, no_climb g i j ms (λ z h. f z (inr h)), level_most g m j)

-- the cuts that hold i and not j have two halves at most for each step
half : (g : LiftInput) → Fits g → (i j c : ℕ) → i < g.size → ((t : ℕ) → t < g.places → g.least t j ≤ g.least t i + c)
    → climb g i j g.moats ≤ 2 * c
half g f i j c in_i forth = elim (best g f i in_i) [
  | inl none ↦ omega (arith, no_climb g i j g.moats none)
  | inr p ↦
      let near = forth p.0 p.1 in
      let fits = climb_below g f i j p.0 (2 * g.least p.0 j) p.2 (λ m is less. top p.0 p.2 m is less) in
      omega (arith, fits)
]
  where
    top : (t : ℕ) → IsBest g i t → (m : Moat) → IsOf g.moats m → level g m i < level g m j → depth g m t + level g m j ≤ 2 * g.least t j
    top t b m is less =
        let low : level g m i < m.width = omega (arith, level_most g m j) in
        grind (arith, nat_tests, (level_by g m j t (b.inside m is low)), level_most g m j)

some_climb : (g : LiftInput) (i j : ℕ) (ms : List Moat) → 0 < climb g i j ms → (m : Moat) × IsOf ms m × (level g m i < level g m j)
some_climb g i j [] h = absurd (omega arith)
some_climb g i j (m ∷ ms) h = elim (cases_lt (level g m i) (level g m j)) [
  | inl less ↦ (m, inl refl, less)
  | inr more ↦ let p = some_climb g i j ms (omega arith) in (p.0, inr p.1, p.2)
]

-- a moat with a cut that holds i and not j, and one the other way, are disjoint
crossed : (g : LiftInput) (i j : ℕ) (a b : Moat) → IsOf g.moats a → IsOf g.moats b → level g a i < level g a j
    → level g b j < level g b i → (a ≡ b) ⊎ Apart a b → Disjoint a b
crossed g i j a b is_a is_b up down (inl same) = grind (arith, nat_tests)
crossed g i j a b is_a is_b up down (inr (inl d)) = d
crossed g i j a b is_a is_b up down (inr (inr (inl v))) = grind (arith, nat_tests, level_most, inner_full)
crossed g i j a b is_a is_b up down (inr (inr (inr v))) = grind (arith, nat_tests, level_most, inner_full)

-- the cuts that hold i and not j stay below what parts t from u, where some cut holds j and not i
one_side : (g : LiftInput) → Fits g → (i j t u : ℕ) → IsBest g i t → IsBest g j u → 0 < climb g j i g.moats
    → climb g i j g.moats ≤ width_sum (parts t u) g.moats - 2 * g.least t i
one_side g f i j t u bi bj other = climb_below g f i j t (width_sum (parts t u) g.moats) bi top
  where
    top : (m : Moat) → IsOf g.moats m → level g m i < level g m j → depth g m t + level g m j ≤ width_sum (parts t u) g.moats
    top m is less =
        let p = some_climb g j i g.moats other in
        let down : level g p.0 j < level g p.0 i = p.2 in
        let d = crossed g i j m p.0 is p.1 less down (related g.moats m p.0 f.laminar is p.1) in
        let has_u : has_member p.0.members u ≡ true = bj.inside p.0 p.1 (omega (arith, level_most g p.0 i)) in
        let has_t : has_member m.members t ≡ true = bi.inside m is (omega (arith, level_most g m j)) in
        omega (arith, reach g f.laminar m t u is has_t (not_in p.0 m u (λ x y z. d x z y) has_u), level_most g p.0 i, level_most g m j)

both_sides : (g : LiftInput) → Fits g → (i j c : ℕ) → j < g.size → IsLine g i j c → 0 < climb g i j g.moats → 0 < climb g j i g.moats
    → ((m : Moat) → IsOf g.moats m → m.width ≤ level g m i) ⊎ ((t : ℕ) × (t < g.places) × IsBest g i t)
    → ((m : Moat) → IsOf g.moats m → m.width ≤ level g m j) ⊎ ((t : ℕ) × (t < g.places) × IsBest g j t)
    → climb g i j g.moats + climb g j i g.moats ≤ 2 * c
both_sides g f i j c in_j l up down (inl none) q = absurd (omega (arith, no_climb g i j g.moats none))
both_sides g f i j c in_j l up down (inr p) (inl none) = absurd (omega (arith, no_climb g j i g.moats none))
both_sides g f i j c in_j l up down (inr p) (inr q) =
    let bounded = f.bounded p.0 q.0 p.1 q.1 in
    let joined = f.joined p.0 q.0 j p.1 q.1 in_j in
    let near = l.forth p.0 p.1 in
    omega (arith, one_side g f i j p.0 q.0 p.2 q.2 down, one_side g f j i q.0 p.0 q.2 p.2 up, bounded, joined, near, up, down)

-- the cuts that hold exactly one of i and j have two halves at most for each step
pub carries : (g : LiftInput) → Fits g → (i j c : ℕ) → i < g.size → j < g.size → IsLine g i j c
    → climb g i j g.moats + climb g j i g.moats ≤ 2 * c
carries g f i j c in_i in_j l = elim (cases_lt 0 (climb g i j g.moats)) [
  | inl up ↦ elim (cases_lt 0 (climb g j i g.moats)) [
    | inl down ↦ both_sides g f i j c in_j l up down (best g f i in_i) (best g f j in_j)
    | inr flat ↦ omega (arith, half g f i j c in_i l.forth)
  ]
  | inr flat ↦ omega (arith, half g f j i c in_j l.back)
]
