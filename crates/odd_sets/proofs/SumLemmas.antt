-- Counts, heights and loads of joined lists, and of the sets of items.
use Rattle.std.proofs.Common.{◌≡◌, ℕ, zero, suc, ◌+◌, ◌-◌, ◌*◌, ◌≤◌, ◌⊎◌, inl, inr, List, [], ◌∷◌, ◌++◌, arith, refl, length, length-append, ap, ◌∙◌}
use Rattle.std.proofs.lemmas.List.Concat.{flat_map-append}
use Rattle.odd_sets.proofs.Names.{nat_tests, eqb-true, eq-eqb, flat_map, sum_over, DualSet, OddSetValue, IsAdditive, dual_sets, dual_sets_of, count, height, one_if_equal, dual_load, members_onto, total, key_count, NoneHold, IsOddSet, apart}

-- what follows from a number that is 0 and from one that isn't
pub by_count : {R : Type 0} (n : ℕ) → (n ≡ 0 → R) → (1 ≤ n → R) → R
by_count zero none some = none refl
by_count (suc n) none some = some (omega arith)

-- what follows from each of two cases
pub by_either : {A B R : Type 0} → (A → R) → (B → R) → A ⊎ B → R
by_either one two (inl a) = one a
by_either one two (inr b) = two b

pub sum_over-append : {X : Type 0} (f : X → ℕ) (xs ys : List X) → sum_over f (xs ++ ys) ≡ sum_over f xs + sum_over f ys
sum_over-append f [] ys = omega arith
sum_over-append f (x ∷ xs) ys = omega (arith, sum_over-append f xs ys)

pub count-append : (x : ℕ) (xs ys : List ℕ) → count x (xs ++ ys) ≡ count x xs + count x ys
count-append x [] ys = omega arith
count-append x (y ∷ xs) ys = omega (arith, count-append x xs ys)

pub height-append : (x : ℕ) (xs ys : List DualSet) → height x (xs ++ ys) ≡ height x xs + height x ys
height-append x xs ys = sum_over-append (λ (b : DualSet). b.dual * count x b.members) xs ys

pub total-append : (xs ys : List DualSet) → total (xs ++ ys) ≡ total xs + total ys
total-append xs ys = sum_over-append (λ (b : DualSet). b.dual) xs ys

pub dual_load-append : (a b : ℕ) (xs ys : List DualSet) → dual_load a b (xs ++ ys) ≡ dual_load a b xs + dual_load a b ys
dual_load-append a b xs ys = sum_over-append (λ (s : DualSet). s.dual * apart (count a s.members) (count b s.members)) xs ys

pub key_count-append : (k : ℕ) (xs ys : List DualSet) → key_count k (xs ++ ys) ≡ key_count k xs + key_count k ys
key_count-append k xs ys = sum_over-append (λ (b : DualSet). one_if_equal k b.key) xs ys

pub size-append : (xs ys : List DualSet) → length (xs ++ ys) ≡ length xs + length ys
size-append xs ys = length-append xs ys

pub adds_none : (F : List DualSet → ℕ) → IsAdditive F → F [] ≡ 0
adds_none F add = omega (arith, add [] [])

pub none_tall : (x : ℕ) (bs : List DualSet) → NoneHold x bs → height x bs ≡ 0
none_tall x [] none = refl
none_tall x (b ∷ bs) none = rw none.0 (omega (arith, none_tall x bs none.1))

one_side : (w m : ℕ) → w * ((m - 0) + (0 - m)) ≡ w * m
one_side w m = let e : (m - 0) + (0 - m) ≡ m = omega arith in rw e refl

other_side : (w m : ℕ) → w * ((0 - m) + (m - 0)) ≡ w * m
other_side w m = let e : (0 - m) + (m - 0) ≡ m = omega arith in rw e refl

pub dual_load-comm : (a b : ℕ) (bs : List DualSet) → dual_load a b bs ≡ dual_load b a bs
dual_load-comm a b [] = refl
dual_load-comm a b (s ∷ bs) =
    grind (arith, nat_tests, dual_load-comm a b bs)

-- where no set holds b, the load is the height of a
pub load_alone : (a b : ℕ) (bs : List DualSet) → NoneHold b bs → dual_load a b bs ≡ height a bs
load_alone a b [] none = refl
load_alone a b (s ∷ bs) none = rw none.0 (omega (arith, load_alone a b bs none.1, one_side s.dual (count a s.members)))

pub load_other : (a b : ℕ) (bs : List DualSet) → NoneHold a bs → dual_load a b bs ≡ height b bs
load_other a b [] none = refl
load_other a b (s ∷ bs) none = rw none.0 (omega (arith, load_other a b bs none.1, other_side s.dual (count b s.members)))

-- a place that is no member is in no set of the set
pub none_hold : (x : ℕ) (s : OddSetValue) → IsOddSet s → count x s.members ≡ 0 → NoneHold x (dual_sets s)
none_hold x s kept none = (none, kept.covered x none)

pub low : (x : ℕ) (s : OddSetValue) → IsOddSet s → count x s.members ≡ 0 → height x (dual_sets s) ≡ 0
low x s kept none = none_tall x (dual_sets s) (none_hold x s kept none)

-- a set that does not hold both is crossed by all that holds either
pub load_across : (a b : ℕ) (s : OddSetValue) → IsOddSet s → count a s.members ≡ 0
    → dual_load a b (dual_sets s) ≡ height a (dual_sets s) + height b (dual_sets s)
load_across a b s kept none = omega (arith, load_other a b (dual_sets s) (none_hold a s kept none), low a s kept none)

pub load_along : (a b : ℕ) (s : OddSetValue) → IsOddSet s → count b s.members ≡ 0
    → dual_load a b (dual_sets s) ≡ height a (dual_sets s) + height b (dual_sets s)
load_along a b s kept none = omega (arith, load_alone a b (dual_sets s) (none_hold b s kept none), low b s kept none)

pub hit_same : (x : ℕ) → one_if_equal x x ≡ 1
hit_same x = rw (eq-eqb x x refl) refl

pub hit_is : (x y : ℕ) → 1 ≤ one_if_equal x y → x ≡ y
hit_is x y h1 = grind (arith, nat_tests, eqb-true)

-- an odd list has a first item
pub some_member : (xs : List ℕ) → 1 ≤ length xs → (x : ℕ) × (1 ≤ count x xs)
some_member [] some = absurd (omega arith)
some_member (x ∷ xs) some = (x, omega (arith, hit_same x))

-- how often sets have the place, and what F is of them
abbrev pub counts : ℕ → List OddSetValue → ℕ
counts x ss = sum_over (λ (s : OddSetValue). count x s.members) ss

abbrev pub amounts : (List DualSet → ℕ) → List OddSetValue → ℕ
amounts F ss = sum_over (λ (s : OddSetValue). F (dual_sets s)) ss

-- what a list of sets has is what they have one by one
pub members_each : (x : ℕ) (places : List ℕ) (ss : List OddSetValue) → count x (members_onto places ss) ≡ count x places + counts x ss
members_each x places [] = omega arith
members_each x places (s ∷ ss) = omega (arith, members_each x places ss, count-append x s.members (members_onto places ss))

pub bands_each : (F : List DualSet → ℕ) → IsAdditive F → (ss : List OddSetValue) → F (dual_sets_of ss) ≡ amounts F ss
bands_each F add [] = adds_none F add
bands_each F add (s ∷ ss) = omega (arith, bands_each F add ss, add (dual_sets s) (dual_sets_of ss))

-- the sets of items
pub sets-append : {X : Type 0} (f : X → List OddSetValue) (g : OddSetValue → ℕ) (xs ys : List X)
    → sum_over g (flat_map f (xs ++ ys)) ≡ sum_over g (flat_map f xs) + sum_over g (flat_map f ys)
sets-append f g xs ys = ap (sum_over g) (flat_map-append f xs ys) ∙ sum_over-append g (flat_map f xs) (flat_map f ys)

pub members-append : {X : Type 0} (f : X → List OddSetValue) (x : ℕ) (places : List ℕ) (xs ys : List X)
    → count x (members_onto places (flat_map f (xs ++ ys)))
    ≡ count x (members_onto places (flat_map f xs)) + count x (members_onto [] (flat_map f ys))
members-append f x places xs ys = omega (arith, members_each, sets-append f (λ (s : OddSetValue). count x s.members) xs ys)

pub members_push : {X : Type 0} (f : X → List OddSetValue) (x : ℕ) (places : List ℕ) (xs : List X) (y : X)
    → count x (members_onto places (flat_map f (xs ++ y ∷ []))) ≡ count x (members_onto places (flat_map f xs)) + counts x (f y)
members_push f x places xs y = omega (arith, members-append f x places xs (y ∷ []), members_each, sum_over-append)

pub dual_sets-append : (F : List DualSet → ℕ) → IsAdditive F → (X : Type 0) (f : X → List OddSetValue) (xs ys : List X)
    → F (dual_sets_of (flat_map f (xs ++ ys))) ≡ F (dual_sets_of (flat_map f xs)) + F (dual_sets_of (flat_map f ys))
dual_sets-append F add X f xs ys = omega (arith, bands_each F add, sets-append f (λ (s : OddSetValue). F (dual_sets s)) xs ys)

pub bands_push : (F : List DualSet → ℕ) → IsAdditive F → (X : Type 0) (f : X → List OddSetValue) (xs : List X) (y : X)
    → F (dual_sets_of (flat_map f (xs ++ y ∷ []))) ≡ F (dual_sets_of (flat_map f xs)) + amounts F (f y)
bands_push F add X f xs y = omega (arith, dual_sets-append F add X f xs (y ∷ []), bands_each F add, sum_over-append)
