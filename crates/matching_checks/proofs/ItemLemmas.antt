-- Lists whose items are checked one after another.
use Rattle.std.proofs.Common.{◌≡◌, ◌≢◌, ◌==◌, ℕ, ◌+◌, ◌<◌, ◌≤◌, ◌↔◌, List, ◌∷◌, ◌++◌, [], Bool, true, false, All, length, take, get_or, eqb, arith, sym, ap, subst, ◌∙◌}
use Rattle.std.proofs.lemmas.Bool.{MatchBool-at_true, false≢true, eq-eqb, eqb-true, both_ways, ne_eqb}
use Rattle.std.proofs.lemmas.Iterator.Search.{true_from_All}
use Rattle.std.proofs.lemmas.List.{get_or-take, get_or_default, length-take, take_all, take_more}
use Rattle.std.proofs.lemmas.List.Folds.{Any-from_list_any, list_any_at, list_any_none}
use Rattle.std.proofs.lemmas.List.Quantifiers.{all_pairs_push}
use Rattle.std.specs.Bool.{MatchBool}
use Rattle.std.specs.List.{AllPairs, AllWithin, HoldsAt, list_any}

-- what holds of the items so far holds of all at the end
pub all_whole : {X : Type 0} (P : X → Type 0) (xs : List X) (i : ℕ) → length xs ≤ i → All P (take i xs) → All P xs
all_whole {X} P xs i over all = subst (λ (ys : List X). All P ys) (take_all i xs over) all

-- so do relations
pub pairs_whole : {X : Type 0} (R : X → X → Type 0) (xs : List X) (i : ℕ) → length xs ≤ i → AllPairs R (take i xs) → AllPairs R xs
pairs_whole {X} R xs i over pairs = subst (λ (ys : List X). AllPairs R ys) (take_all i xs over) pairs

-- a test of each item, by its results
pub all_by_cases : {X : Type 0} (P : X → Type 0) (r : Bool) (xs : List X)
    → MatchBool r (AllWithin P xs 0 (length xs)) ((k : ℕ) × (k < length xs) × HoldsAt (λ (x : X). P x → false ≡ true) xs k)
    → (r ≡ true) ↔ All P xs
all_by_cases {X} P r xs cases = (
  λ done k d low. MatchBool-at_true _ _ done cases k d (omega arith) low,
  true_from_All P (λ (x : X). P x → false ≡ true) r xs (λ x is not. false≢true (not is)) cases,
)

-- one item more
pub pairs_more : {X : Type 0} (R : X → X → Type 0) (xs : List X) (i : ℕ) (d x : X) → i < length xs → x ≡ get_or xs i d
    → AllPairs R (take i xs) → All (λ (y : X). R y x) (take i xs) → AllPairs R (take (i + 1) xs)
pairs_more {X} R xs i d x low is pairs before =
    let e : take (i + 1) xs ≡ take i xs ++ x ∷ [] = take_more xs i d low ∙ ap (λ (y : X). take i xs ++ y ∷ []) (sym is) in
    subst (λ (ys : List X). AllPairs R ys) (sym e) (all_pairs_push R (take i xs) x pairs before)

-- what holds of each item holds of what is among the items
pub all_held : (P : ℕ → Type 0) (xs : List ℕ) → All P xs → (x : ℕ) → list_any (λ y. x == y) xs ≡ true → P x
all_held P xs all x some =
    let at = Any-from_list_any (λ (y : ℕ). eqb x y) xs some in
    subst P (at.3 ∙ sym (eqb-true x at.1 at.4)) (all at.0 at.1 at.2)

-- where all pairs of items are in a relation, each item before one is in it
pub pairs_before : {X : Type 0} (R : X → X → Type 0) (xs : List X) (i : ℕ) (d x : X) → i < length xs → x ≡ get_or xs i d
    → AllPairs R xs → All (λ (y : X). R y x) (take i xs)
pairs_before {X} R xs i d x low is pairs k e before =
    let k_low : k < i = omega (arith, before, length-take i xs) in
    let same : get_or xs i e ≡ x = get_or_default xs i e d low ∙ sym is in
    subst (λ (y : X). R y x) (sym (get_or-take i xs k e k_low)) (subst (λ (y : X). R (get_or xs k e) y) same (pairs k i e k_low low))

-- what is not among the items differs from each
pub all_apart : (xs : List ℕ) (x : ℕ) → list_any (λ y. eqb y x) xs ≡ false → All (λ y. y ≢ x) xs
all_apart xs x none k d low same =
    both_ways (list_any (λ (y : ℕ). eqb y x) xs) none (list_any_at (λ (y : ℕ). eqb y x) xs k d low (eq-eqb (get_or xs k d) x same))

-- what differs from each is not among the items
pub none_same : (xs : List ℕ) (x : ℕ) → All (λ y. y ≢ x) xs → list_any (λ y. eqb y x) xs ≡ false
none_same xs x apart = list_any_none (λ (y : ℕ). eqb y x) xs (λ k d low. ne_eqb (get_or xs k d) x (apart k d low))
