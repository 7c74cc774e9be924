-- Moats as they are given, and as inductions need them: no number twice, all below a limit, any two apart.
use Rattle.std.proofs.Common.{◌≡◌, ◌≢◌, ℕ, suc, ◌<◌, List, [], ◌∷◌, All, AllPairs, true, false, arith, inl, inr, refl, sym, subst}
use Rattle.std.proofs.lemmas.List.Folds.{list_any_none}
use Rattle.std.specs.Prelude.{◌==◌}
use Rattle.cut_certificate.proofs.Names.{nat_tests, both_ways, eqb-true, ne_eqb, or_cases, All-weaker, Moat, AreLaminar, IsOddMoat, has_member, All-head, All-tail, same_test}
use Rattle.cut_certificate.proofs.HeldLemmas.{Below, Differ, apart}
use Rattle.cut_certificate.proofs.MoatLemmas.{Apart, ApartFromAll, IsOf, Laminar}

not_held : (x : ℕ) (xs : List ℕ) → All (λ y. x ≢ y) xs → has_member xs x ≡ false
not_held x xs all = grind (arith, nat_tests, list_any_none, All-weaker, ne_eqb)

pub differ : (xs : List ℕ) → AllPairs (λ x y. x ≢ y) xs → Differ xs
differ [] pairs = tt
differ (x ∷ xs) pairs = (
  not_held x xs (λ k d lt. pairs 0 (suc k) d (omega arith) (omega arith)),
  differ xs (λ i j d lt in_xs. pairs (suc i) (suc j) d (omega arith) (omega arith)),
)

pub below : (n : ℕ) (xs : List ℕ) → All (λ x. x < n) xs → Below n xs
below n [] all = tt
below n (x ∷ xs) all = (All-head (λ x. x < n) x xs all, below n xs (All-tail (λ x. x < n) x xs all))

pub held_below : (n t : ℕ) (xs : List ℕ) → Below n xs → has_member xs t ≡ true → t < n
held_below n t [] all h = absurd (both_ways false refl h)
held_below n t (x ∷ xs) all h = elim (or_cases (t == x) (has_member xs t) h) [
  | inl same ↦ omega (arith, all.0, eqb-true t x same)
  | inr there ↦ held_below n t xs all.1 there
]

-- what is so of each moat is so of one of them
pub of_all : (P : Moat → Type 0) (ms : List Moat) (m : Moat) → All P ms → IsOf ms m → P m
of_all P [] m all is = absurd is
of_all P (x ∷ xs) m all (inl same) = subst P (sym same) (All-head P x xs all)
of_all P (x ∷ xs) m all (inr is) = of_all P xs m (All-tail P x xs all) is

pub apart_two : (n : ℕ) (a b : Moat) → IsOddMoat n a → IsOddMoat n b → AreLaminar a b → Apart a b
apart_two n a b odd_a odd_b l = grind (arith, nat_tests, apart, differ, same_test)

apart_all : (n : ℕ) (m : Moat) (ms : List Moat) → IsOddMoat n m → All (IsOddMoat n) ms → All (AreLaminar m) ms → ApartFromAll m ms
apart_all n m [] odd all l = tt
apart_all n m (x ∷ xs) odd all l = (
  apart_two n m x odd (All-head (IsOddMoat n) x xs all) (All-head (AreLaminar m) x xs l),
  apart_all n m xs odd (All-tail (IsOddMoat n) x xs all) (All-tail (AreLaminar m) x xs l),
)

pub laminar : (n : ℕ) (ms : List Moat) → All (IsOddMoat n) ms → AllPairs AreLaminar ms → Laminar ms
laminar n [] all pairs = tt
laminar n (m ∷ ms) all pairs = (
  apart_all n m ms (All-head (IsOddMoat n) m ms all) (All-tail (IsOddMoat n) m ms all)
      (λ k d lt. pairs 0 (suc k) d (omega arith) (omega arith)),
  laminar n ms (All-tail (IsOddMoat n) m ms all) (λ i j d lt in_ms. pairs (suc i) (suc j) d (omega arith) (omega arith)),
)
