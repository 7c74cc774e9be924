-- Sums of widths, and how the moats of a laminar list lie to one another.
use Rattle.std.proofs.Common.{◌≡◌, ℕ, ◌+◌, ◌*◌, ◌<◌, ◌≤◌, ◌⊎◌, List, [], ◌∷◌, length, Bool, true, false, not, ◌&&◌, nat_lt, arith, inl, inr, refl, sym, ◌∙◌, subst}
use Rattle.cut_certificate.proofs.Names.{nat_tests, and_from, and_parts, both_ways, lt-ltb, ltb-true, if◌then◌else◌, Moat, has_member, LiftInput, depth, is_inner, width_sum, and_right, le-ltb}

-- a moat of the list
abbrev pub IsOf : List Moat → Moat → Type 0
IsOf [] m = ⊥
IsOf (x ∷ xs) m = (m ≡ x) ⊎ IsOf xs m

-- the moat holds the first terminal and not the second
abbrev pub parts : ℕ → ℕ → Moat → Bool
parts t u m = has_member m.members t && not (has_member m.members u)

-- no terminal is a member of both
abbrev pub Disjoint : Moat → Moat → Type 0
Disjoint a b = (t : ℕ) → has_member a.members t ≡ true → has_member b.members t ≡ true → ⊥

-- the one has fewer members, and all of them are the other's
abbrev pub Inside : Moat → Moat → Type 0
Inside a b = (length a.members < length b.members) × ((t : ℕ) → has_member a.members t ≡ true → has_member b.members t ≡ true)

-- two moats are disjoint, or one lies inside the other
abbrev pub Apart : Moat → Moat → Type 0
Apart a b = Disjoint a b ⊎ (Inside a b ⊎ Inside b a)

-- so it is with each of the list
abbrev pub ApartFromAll : Moat → List Moat → Type 0
ApartFromAll m [] = Unit {0}
ApartFromAll m (x ∷ xs) = Apart m x × ApartFromAll m xs

-- and with any two of the list
abbrev pub Laminar : List Moat → Type 0
Laminar [] = Unit {0}
Laminar (m ∷ ms) = ApartFromAll m ms × Laminar ms

-- laminar moats over the terminals, and costs that are distances; no two terminals have more between
-- them than two halves for each step from one to the other
pub record Fits (g : LiftInput) : Type 0 where
  pub laminar : Laminar g.moats
  pub placed : (m : Moat) → IsOf g.moats m → (t : ℕ) → has_member m.members t ≡ true → t < g.places
  pub bounded : (t u : ℕ) → t < g.places → u < g.places
      → width_sum (parts t u) g.moats + width_sum (parts u t) g.moats ≤ 2 * g.least t (g.spot u)
  pub home : (t : ℕ) → t < g.places → g.least t (g.spot t) ≡ 0
  pub joined : (t u j : ℕ) → t < g.places → u < g.places → j < g.size → g.least t (g.spot u) ≤ g.least t j + g.least u j

step : (p q : Bool) (w a b : ℕ) → (p ≡ true → q ≡ true) → a ≤ b → (if p then w else 0) + a ≤ (if q then w else 0) + b
step false false w a b f h = omega arith
step false true w a b f h = omega arith
step true true w a b f h = omega arith
step true false w a b f h = absurd (both_ways false refl (f refl))

-- where the one test passes less than the other, so do the sums
pub widths_mono : (p q : Moat → Bool) (ms : List Moat) → ((m : Moat) → IsOf ms m → p m ≡ true → q m ≡ true)
    → width_sum p ms ≤ width_sum q ms
widths_mono p q [] f = omega arith
widths_mono p q (m ∷ ms) f =
    step (p m) (q m) m.width (width_sum p ms) (width_sum q ms) (f m (inl refl)) (widths_mono p q ms (λ x h. f x (inr h)))

-- and where it misses a moat that the other passes, the width of this moat lies between the sums
pub widths_with : (p q : Moat → Bool) (s : Moat) (ms : List Moat) → IsOf ms s → p s ≡ false → q s ≡ true
    → ((m : Moat) → IsOf ms m → p m ≡ true → q m ≡ true) → width_sum p ms + s.width ≤ width_sum q ms
widths_with p q s [] is misses passes f = absurd is
widths_with p q s (m ∷ ms) (inl same) misses passes f = grind (arith, nat_tests, widths_mono p q ms (λ x h. f x (inr h)))
widths_with p q s (m ∷ ms) (inr is) misses passes f =
    grind (arith, nat_tests, (widths_with p q s ms is misses passes (λ x h. f x (inr h))))

turned : (a b : Moat) → Apart a b → Apart b a
turned a b (inl d) = inl (λ t x y. d t y x)
turned a b (inr (inl i)) = inr (inr i)
turned a b (inr (inr i)) = inr (inl i)

-- one of the list is apart from a moat that is apart from all
pub one_apart : (m : Moat) (ms : List Moat) (x : Moat) → ApartFromAll m ms → IsOf ms x → Apart m x
one_apart m [] x all is = absurd is
one_apart m (y ∷ ys) x all (inl same) = subst (λ (z : Moat). Apart m z) (sym same) all.0
one_apart m (y ∷ ys) x all (inr is) = one_apart m ys x all.1 is

-- two of a laminar list are equal or apart
pub related : (ms : List Moat) (a b : Moat) → Laminar ms → IsOf ms a → IsOf ms b → (a ≡ b) ⊎ Apart a b
related [] a b l x y = absurd x
related (m ∷ ms) a b l (inl x) (inl y) = inl (x ∙ sym y)
related (m ∷ ms) a b l (inl x) (inr y) = inr (subst (λ (z : Moat). Apart z b) (sym x) (one_apart m ms b l.0 y))
related (m ∷ ms) a b l (inr x) (inl y) = inr (subst (λ (z : Moat). Apart a z) (sym y) (turned m a (one_apart m ms a l.0 x)))
related (m ∷ ms) a b l (inr x) (inr y) = related ms a b l.1 x y

-- a member of one of two disjoint moats is no member of the other
pub not_in : (a b : Moat) (t : ℕ) → Disjoint a b → has_member a.members t ≡ true → has_member b.members t ≡ false
not_in a b t d h = grind (arith, nat_tests)

not_inner : (s : Moat) (t : ℕ) → is_inner s t s ≡ false
not_inner s t = and_right (has_member s.members t) (nat_lt (length s.members) (length s.members)) (le-ltb _ _ (omega arith))

-- a moat around t reaches no higher above t than the moats that hold t and not u
pub reach : (g : LiftInput) → Laminar g.moats → (s : Moat) (t u : ℕ) → IsOf g.moats s → has_member s.members t ≡ true
    → has_member s.members u ≡ false → depth g s t + s.width ≤ width_sum (parts t u) g.moats
reach g l s t u is in_s out = grind (arith, nat_tests, widths_with, not_inner, and_from, and_parts, ltb-true, related)

-- a larger moat around t begins above the smaller one
pub above : (g : LiftInput) (a b : Moat) (t : ℕ) → IsOf g.moats a → has_member a.members t ≡ true
    → length a.members < length b.members → depth g a t + a.width ≤ depth g b t
above g a b t is in_a size = grind (arith, nat_tests, widths_with, not_inner, and_from, lt-ltb)
