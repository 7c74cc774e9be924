-- The first item that holds a vertex, or the last one where no earlier one does.
use Rattle.std.proofs.Common.{◌≡◌, ℕ, ◌+◌, ◌-◌, ◌≤◌, ◌<◌, suc, zero, List, [], ◌∷◌, length, take, get_or, arith, sym}
use Rattle.std.proofs.lemmas.List.{get_or-take, length-take}
use Rattle.std.specs.Bool.{⊤}
use Rattle.std.specs.List.{AllWithin, HoldsAt}
use Rattle.std.specs.Option.{IfSome, MatchOption, unwrap_or}
use Rattle.std.specs.declared.option.Option.{Option}
use Rattle.std.specs.declared.option.Option.TheVariants.{None, Some}

-- at the index is the first count above 0; or all counts are 0
abbrev pub IsFirst : {X : Type 0} → (X → ℕ) → List X → Option ℕ → Type 0
IsFirst f xs r = MatchOption r (AllWithin (λ x. f x ≡ 0) xs 0 (length xs))
    (λ i. (i < length xs) × HoldsAt (λ x. 1 ≤ f x) xs i × AllWithin (λ x. f x ≡ 0) xs 0 i)

module _ {X : Type 0} (f : X → ℕ) (sum : List X → ℕ) (none : sum [] ≡ 0) (more : (x : X) (xs : List X) → sum (x ∷ xs) ≡ f x + sum xs) where
  last_holds : (xs : List X) (n : ℕ) (d : X) → n ≡ length xs - 1 → AllWithin (λ x. f x ≡ 0) (take n xs) 0 n → 1 ≤ sum xs
      → (n < length xs) × (1 ≤ f (get_or xs n d))
  last_holds [] n d last before some = absurd (omega (arith, none, some))
  last_holds (x ∷ []) zero d last before some = (omega arith, omega (arith, none, some, more x []))
  last_holds (x ∷ y ∷ xs) zero d last before some = absurd (omega (arith, last))
  last_holds (x ∷ xs) (suc n) d last before some =
      let later = last_holds xs n d (omega (arith, last)) (λ k e low high. before (suc k) e (omega arith) (omega (arith, high)))
      (omega (arith, some, more x xs, before 0 x (omega arith) (omega arith))) in
      (omega (arith, later.0), later.1)

  -- the first of all items but the last, or the last
  pub first_or_last : (xs : List X) (n i : ℕ) (r : Option ℕ) (d : X) → n ≡ length xs - 1 → IsFirst f (take n xs) r → i ≡ unwrap_or r n
      → 1 ≤ sum xs → (i < length xs) × (1 ≤ f (get_or xs i d))
  first_or_last xs n i None d last is found some =
      rw found (last_holds xs n d last (λ k e low high. is k e low (omega (arith, high, last, length-take n xs))) some)
  first_or_last xs n i (Some j) d last is found some =
      rw found (omega (arith, is.0, length-take n xs), rw (sym (get_or-take n xs j d (omega (arith, is.0, length-take n xs)))) (is.1 d))

-- what is said of each item that passes is said of the one that was found
pub if_found : {X : Type 0} (f : X → ℕ) (xs : List X) (r : Option ℕ) (d : X) (Q : ℕ → Type 0)
    → ((i : ℕ) → i < length xs → 1 ≤ f (get_or xs i d) → Q i)
    → MatchOption r (AllWithin (λ x. ⊤) xs 0 (length xs)) (λ i. (i < length xs) × HoldsAt (λ x. 1 ≤ f x) xs i × AllWithin (λ x. ⊤) xs 0 i)
    → IfSome r (λ i. (i < length xs) × Q i)
if_found f xs None d Q says is = tt
if_found f xs (Some i) d Q says is = (is.0, says i is.0 (is.1 d))
