-- Facts of each item of joined lists.
use Rattle.std.proofs.Common.{◌≡◌, ℕ, suc, zero, List, [], ◌∷◌, ◌++◌, take, drop, map, reverse, length, ◌+◌, ◌<◌, get_or, drop-cons, add-one, arith, refl, sym, ap, subst, ◌∙◌}
use Rattle.std.proofs.Math.ListN.{get_or-map}
use Rattle.std.proofs.Math.Seq.{drop-append_seam, take-append_seam, take-suc}
use Rattle.std.proofs.lemmas.List.{length-take-le}
use Rattle.odd_sets.proofs.Names.{nat_tests, length-map, map-append, flat_map, Each, reverse_onto, EachPair}

pub each-append : {X : Type 0} (P : X → Type 0) (xs ys : List X) → Each P xs → Each P ys → Each P (xs ++ ys)
each-append P [] ys p q = q
each-append P (x ∷ xs) ys p q = (p.0, each-append P xs ys p.1 q)

pub each-left : {X : Type 0} (P : X → Type 0) (xs ys : List X) → Each P (xs ++ ys) → Each P xs
each-left P [] ys p = tt
each-left P (x ∷ xs) ys p = (p.0, each-left P xs ys p.1)

pub each-right : {X : Type 0} (P : X → Type 0) (xs ys : List X) → Each P (xs ++ ys) → Each P ys
each-right P [] ys p = p
each-right P (x ∷ xs) ys p = each-right P xs ys p.1

pub each-push : {X : Type 0} (P : X → Type 0) (xs : List X) (y : X) → Each P xs → P y → Each P (xs ++ y ∷ [])
each-push P xs y p q = each-append P xs (y ∷ []) p (q, tt)

pub each-last : {X : Type 0} (P : X → Type 0) (xs : List X) (y : X) → Each P (xs ++ y ∷ []) → P y
each-last P xs y p = (each-right P xs (y ∷ []) p).0

pub each-drop : {X : Type 0} (P : X → Type 0) (i : ℕ) (xs : List X) → Each P xs → Each P (drop i xs)
each-drop P zero xs p = p
each-drop P (suc i) [] p = p
each-drop P (suc i) (x ∷ xs) p = each-drop P i xs p.1

pub each-take : {X : Type 0} (P : X → Type 0) (i : ℕ) (xs : List X) → Each P xs → Each P (take i xs)
each-take P zero xs p = tt
each-take P (suc i) [] p = p
each-take P (suc i) (x ∷ xs) p = (p.0, each-take P i xs p.1)

-- the rotated list
pub each-turned : {X : Type 0} (P : X → Type 0) (i : ℕ) (xs : List X) → Each P xs → Each P (drop i xs ++ take i xs)
each-turned P i xs p = each-append P (drop i xs) (take i xs) (each-drop P i xs p) (each-take P i xs p)

-- the lists that items give, one after another
pub each-flat_map : {X Y : Type 0} (P : Y → Type 0) (f : X → List Y) (xs : List X) → Each (λ (x : X). Each P (f x)) xs
    → Each P (flat_map f xs)
each-flat_map P f [] p = tt
each-flat_map P f (x ∷ xs) p = each-append P (f x) (flat_map f xs) p.0 (each-flat_map P f xs p.1)

pub each-apart : {X Y : Type 0} (P : Y → Type 0) (f : X → List Y) (xs : List X) → Each P (flat_map f xs) → Each (λ (x : X). Each P (f x)) xs
each-apart P f [] p = tt
each-apart P f (x ∷ xs) p = (each-left P (f x) (flat_map f xs) p, each-apart P f xs (each-right P (f x) (flat_map f xs) p))

pub each-map : {X : Type 0} (P Q : X → Type 0) (f : (x : X) → P x → Q x) (xs : List X) → Each P xs → Each Q xs
each-map P Q f [] p = tt
each-map P Q f (x ∷ xs) p = (f x p.0, each-map P Q f xs p.1)

pub pairs-append : {X : Type 0} (R : X → X → Type 0) (xs ys : List X) → EachPair R xs → EachPair R ys → Each (λ (x : X). Each (R x) ys) xs
    → EachPair R (xs ++ ys)
pairs-append R [] ys p q across = q
pairs-append R (x ∷ xs) ys p q across = (each-append (R x) xs ys p.0 across.0, pairs-append R xs ys p.1 q across.1)

-- the item at the index comes first among those that are left
pub drop_here : {X : Type 0} (xs : List X) (i : ℕ) (x : X) → i < length xs → x ≡ get_or xs i x → drop i xs ≡ x ∷ drop (i + 1) xs
drop_here {X} xs i x low is = rw add-one (drop-cons xs i x low ∙ ap (λ (y : X). y ∷ drop (suc i) xs) (sym is))

-- one item more
take_suc : {X : Type 0} (xs : List X) (i : ℕ) (x : X) → i < length xs → x ≡ get_or xs i x → take (suc i) xs ≡ take i xs ++ x ∷ []
take_suc [] i x low is = absurd (omega arith)
take_suc {X} (y ∷ ys) zero x low is = ap (λ (z : X). z ∷ []) (sym is)
take_suc {X} (y ∷ ys) (suc i) x low is = ap (λ (zs : List X). y ∷ zs) (take_suc ys i x (omega arith) is)

pub take_here : {X : Type 0} (xs : List X) (i : ℕ) (x : X) → i < length xs → x ≡ get_or xs i x → take (i + 1) xs ≡ take i xs ++ x ∷ []
take_here xs i x low is = rw add-one (take_suc xs i x low is)

number_suc : (xs : List ℕ) (i : ℕ) → i < length xs → take (suc i) xs ≡ take i xs ++ get_or xs i 0 ∷ []
number_suc [] i low = absurd (omega arith)
number_suc (y ∷ ys) zero low = refl
number_suc (y ∷ ys) (suc i) low = ap (λ (zs : List ℕ). y ∷ zs) (number_suc ys i (omega arith))

pub number_here : (xs : List ℕ) (i : ℕ) → i < length xs → take (i + 1) xs ≡ take i xs ++ get_or xs i 0 ∷ []
number_here xs i low = rw add-one (number_suc xs i low)

-- what holds of each holds of the one at the index
pub each_here : {X : Type 0} (P : X → Type 0) (xs : List X) (i : ℕ) (x : X) → Each P xs → i < length xs → x ≡ get_or xs i x → P x
each_here {X} P xs i x p low is = (subst (λ (ks : List X). Each P ks) (drop_here xs i x low is) (each-drop P i xs p)).0

-- the items of a vector after a call on its slice
pub written : {X : Type 0} (len : ℕ) (new old : List X) → length new ≡ len → take len (new ++ drop (length new) old) ≡ new
written len new old h1 = grind (arith, nat_tests, take-append_seam)

-- what holds of each item's image holds of each item of the images
pub each-mapped : {X Y : Type 0} (P : Y → Type 0) (f : X → Y) (xs : List X) → Each P (map f xs) → Each (λ (x : X). P (f x)) xs
each-mapped P f [] p = tt
each-mapped P f (x ∷ xs) p = (p.0, each-mapped P f xs p.1)

-- the image of the item at the index
pub mapped_at : {X Y : Type 0} (f : X → Y) (xs : List X) (i : ℕ) (x : X) → x ≡ get_or xs i x → f x ≡ get_or (map f xs) i (f x)
mapped_at f xs i x is = ap f is ∙ sym (get_or-map f xs i x)

pub mapped_low : {X Y : Type 0} (f : X → Y) (xs : List X) (i : ℕ) → i < length xs → i < length (map f xs)
mapped_low f xs i low = omega (arith, length-map xs f)

pub mapped_last : {X Y : Type 0} (f : X → Y) (xs ys : List X) (x : X) → xs ≡ ys ++ x ∷ [] → map f xs ≡ map f ys ++ f x ∷ []
mapped_last {X} f xs ys x e = ap (λ (zs : List X). map f zs) e ∙ map-append f ys (x ∷ [])

pub mapped_take : {X Y : Type 0} (f : X → Y) (i : ℕ) (xs : List X) → take i (map f xs) ≡ map f (take i xs)
mapped_take f zero xs = refl
mapped_take f (suc i) [] = refl
mapped_take {X} {Y} f (suc i) (x ∷ xs) = ap (λ (zs : List Y). f x ∷ zs) (mapped_take f i xs)

pub mapped_drop : {X Y : Type 0} (f : X → Y) (i : ℕ) (xs : List X) → drop i (map f xs) ≡ map f (drop i xs)
mapped_drop f zero xs = refl
mapped_drop f (suc i) [] = refl
mapped_drop f (suc i) (x ∷ xs) = mapped_drop f i xs

pub mapped_reverse : {X Y : Type 0} (f : X → Y) (xs : List X) → map f (reverse xs) ≡ reverse (map f xs)
mapped_reverse f [] = refl
mapped_reverse {X} {Y} f (x ∷ xs) =
    grind (arith, nat_tests, map, reverse_onto, map-append, reverse, mapped_reverse f xs)

pub get_or_self : {X : Type 0} (xs : List X) (i : ℕ) (d : X) → get_or xs i d ≡ get_or xs i (get_or xs i d)
get_or_self [] i d = refl
get_or_self (x ∷ xs) zero d = refl
get_or_self (x ∷ xs) (suc i) d = get_or_self xs i d

pub mapped_item : {X Y : Type 0} (f : X → Y) (xs : List X) (i : ℕ) (d : X) → f (get_or xs i d) ≡ get_or (map f xs) i (f (get_or xs i d))
mapped_item f xs i d = mapped_at f xs i (get_or xs i d) (get_or_self xs i d)

pub mapped_cut : {X Y : Type 0} (f : X → Y) (n at : ℕ) (xs : List X) → map f (take n (drop at xs)) ≡ take n (drop at (map f xs))
mapped_cut {X} {Y} f n at xs = sym (mapped_take f n (drop at xs)) ∙ ap (λ (ys : List Y). take n ys) (sym (mapped_drop f at xs))

pub mapped_removed : {X Y : Type 0} (f : X → Y) (xs ys : List X) (i : ℕ) → ys ≡ take i xs ++ drop (suc i) xs
    → map f ys ≡ take i (map f xs) ++ drop (suc i) (map f xs)
mapped_removed f xs ys i h1 = grind (arith, nat_tests, map-append, mapped_take, mapped_drop)

pub none_left : {X : Type 0} (xs : List X) → length xs ≡ 0 → xs ≡ []
none_left [] none = refl
none_left (x ∷ xs) none = absurd (omega (arith, none))

pub mapped_two : {X Y : Type 0} (f : X → Y) (xs ys : List X) (x y : X) → xs ≡ (ys ++ x ∷ []) ++ y ∷ []
    → map f xs ≡ (map f ys ++ f x ∷ []) ++ f y ∷ []
mapped_two f xs ys x y h1 = grind (arith, nat_tests, mapped_last, map-append)

-- what stands before and after an item that was removed
pub parted : {X : Type 0} (xs ys before after : List X) (i : ℕ) (x : X) → i < length xs → x ≡ get_or xs i x
    → ys ≡ take i xs ++ drop (suc i) xs
    → before ≡ take i ys → after ≡ drop i ys → (after ≡ drop (i + 1) xs) × (take (i + 1) xs ≡ before ++ x ∷ [])
parted {X} xs ys before after i x low here removed first last =
    let size : length (take i xs) ≡ i = length-take-le i xs (omega (arith, low)) in
    let front : before ≡ take i xs = first ∙ ap (λ (zs : List X). take i zs) removed
    ∙ ap (λ (n : ℕ). take n (take i xs ++ drop (suc i) xs)) (sym size) ∙ take-append_seam (take i xs) (drop (suc i) xs) in
    let back : after ≡ drop (suc i) xs = last ∙ ap (λ (zs : List X). drop i zs) removed
    ∙ ap (λ (n : ℕ). drop n (take i xs ++ drop (suc i) xs)) (sym size) ∙ drop-append_seam (take i xs) (drop (suc i) xs) in
    (rw add-one back, rw (add-one, front) (take-suc xs i x low ∙ ap (λ (z : X). take i xs ++ z ∷ []) (sym here)))
