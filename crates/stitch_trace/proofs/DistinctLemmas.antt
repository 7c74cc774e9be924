-- The new links of a block are its distinct links.
use Rattle.std.proofs.Common.{arith, ◌≡◌, Bool, true, false, ◌||◌, cond, List, [], ◌∷◌, subst, refl, inl, inr}
use Rattle.stitch_trace.proofs.Names.{nat_tests, ap₂, and_parts, or_parts, list_all, list_any, is_same_point, Link, NeedleMove, Stay, Gap, Sewn, is_sewn, new_moves, are_distinct, is_same_directed_link, is_same_link, links_in, needle_moves_of, reversed_link, same_is, or_cases, or_left, or_right, NewLinksAreDistinct, point_itself}

-- a link has its own ends
ends_found : (a : Link) → is_same_directed_link a a ≡ true
ends_found a = rw (point_itself a.from, point_itself a.to) refl

ends_same : (a b : Link) → is_same_directed_link a b ≡ true → a ≡ b
ends_same a b found =
    let both = and_parts (is_same_point a.from b.from) (is_same_point a.to b.to) found in
    ap₂ (λ from to. record { from = from; to = to }) (same_is a.from b.from both.0) (same_is a.to b.to both.1)

link_found : (a : Link) → is_same_link a a ≡ true
link_found a = or_left (is_same_directed_link a a) (is_same_directed_link (reversed_link a) a) (ends_found a)

-- a link is the same as one turned
turned_found : (a b : Link) → is_same_link a b ≡ true → is_same_link a (reversed_link b) ≡ true
turned_found a b same = elim (or_cases (is_same_directed_link a b) (is_same_directed_link (reversed_link a) b) same) [
  | inl ends ↦ or_right (is_same_directed_link a (reversed_link b)) (is_same_directed_link (reversed_link a) (reversed_link b))
      (subst (λ (c : Link). is_same_directed_link (reversed_link a) (reversed_link c) ≡ true) (ends_same a b ends)
      (ends_found (reversed_link a)))
  | inr ends ↦ or_left (is_same_directed_link a (reversed_link b)) (is_same_directed_link (reversed_link a) (reversed_link b))
      (subst (λ (c : Link). is_same_directed_link a (reversed_link c) ≡ true) (ends_same (reversed_link a) b ends) (ends_found a))
]

-- what is the same as one of two that are the same is the same as the other
same_on : (a b c : Link) → is_same_link a b ≡ true → is_same_link b c ≡ true → is_same_link a c ≡ true
same_on a b c one two = elim (or_cases (is_same_directed_link b c) (is_same_directed_link (reversed_link b) c) two) [
  | inl ends ↦ subst (λ (d : Link). is_same_link a d ≡ true) (ends_same b c ends) one
  | inr ends ↦ subst (λ (d : Link). is_same_link a d ≡ true) (ends_same (reversed_link b) c ends) (turned_found a b one)
]

sewn_on : (before : List Link) (b c : Link) → is_sewn before b ≡ true → is_same_link b c ≡ true → is_sewn before c ≡ true
sewn_on [] b c sewn same = absurd cc
sewn_on (a ∷ before) b c sewn same = elim (or_cases (is_same_link a b) (is_sewn before b) sewn) [
  | inl here ↦ or_left (is_same_link a c) (is_sewn before c) (same_on a b c here same)
  | inr later ↦ or_right (is_same_link a c) (is_sewn before c) (sewn_on before b c later same)
]

-- no link is new that is the same as one before
none_again : (a : Link) (before : List Link) (moves : List NeedleMove) → ((b : Link) → is_sewn before b ≡ false → is_same_link a b ≡ false)
    → list_any (is_same_link a) (links_in (new_moves before moves)) ≡ false
none_again a before [] other = refl
none_again a before (Stay ∷ rest) other = none_again a before rest other
none_again a before (Gap ∷ rest) other = none_again a before rest other
none_again a before (Sewn number link ∷ rest) other =
    by_test (is_sewn before link) refl (none_again a (link ∷ before) rest
    (λ b fresh. other b (or_parts (is_same_link link b) (is_sewn before b) fresh).1))
  where
    by_test : (t : Bool) → is_sewn before link ≡ t → list_any (is_same_link a) (links_in (new_moves (link ∷ before) rest)) ≡ false
        → list_any (is_same_link a) (links_in (cond t Gap (Sewn number link) ∷ new_moves (link ∷ before) rest)) ≡ false
    by_test true is later = later
    by_test false is later = rw (other link is, later) refl

all_distinct : (before : List Link) (moves : List NeedleMove) → are_distinct (links_in (new_moves before moves)) ≡ true
all_distinct before [] = refl
all_distinct before (Stay ∷ rest) = all_distinct before rest
all_distinct before (Gap ∷ rest) = all_distinct before rest
all_distinct before (Sewn number link ∷ rest) =
    by_test (is_sewn before link) (none_again link (link ∷ before) rest
    (λ b fresh. (or_parts (is_same_link link b) (is_sewn before b) fresh).0)) (all_distinct (link ∷ before) rest)
  where
    by_test : (t : Bool) → list_any (is_same_link link) (links_in (new_moves (link ∷ before) rest)) ≡ false
        → are_distinct (links_in (new_moves (link ∷ before) rest)) ≡ true
        → are_distinct (links_in (cond t Gap (Sewn number link) ∷ new_moves (link ∷ before) rest)) ≡ true
    by_test true none later = later
    by_test false none later = rw (none, later) refl

-- a link was sewn before or is among the new ones
abbrev known : List Link → List Link → Link → Bool
known before new link = is_sewn before link || is_sewn new link

all_more : {X : Type 0} (f g : X → Bool) → ((x : X) → f x ≡ true → g x ≡ true) → (xs : List X) → list_all f xs ≡ true → list_all g xs ≡ true
all_more f g more [] all = refl
all_more f g more (x ∷ xs) all = grind (arith, nat_tests, and_parts (f x) (list_all f xs) all, all_more f g more xs)

all_known : (before : List Link) (moves : List NeedleMove)
    → list_all (known before (links_in (new_moves before moves))) (links_in moves) ≡ true
all_known before [] = refl
all_known before (Stay ∷ rest) = all_known before rest
all_known before (Gap ∷ rest) = all_known before rest
all_known before (Sewn number link ∷ rest) = by_test (is_sewn before link) refl (all_known (link ∷ before) rest)
  where
    new : List Link
    new = links_in (new_moves (link ∷ before) rest)

    from_old : is_sewn before link ≡ true → (m : Link) → known (link ∷ before) new m ≡ true → known before new m ≡ true
    from_old is m found = elim (or_cases (is_sewn (link ∷ before) m) (is_sewn new m) found) [
      | inl early ↦ elim (or_cases (is_same_link link m) (is_sewn before m) early) [
        | inl here ↦ or_left (is_sewn before m) (is_sewn new m) (sewn_on before link m is here)
        | inr there ↦ or_left (is_sewn before m) (is_sewn new m) there
      ]
      | inr late ↦ or_right (is_sewn before m) (is_sewn new m) late
    ]

    from_new : (m : Link) → known (link ∷ before) new m ≡ true → known before (link ∷ new) m ≡ true
    from_new m found = elim (or_cases (is_sewn (link ∷ before) m) (is_sewn new m) found) [
      | inl early ↦ elim (or_cases (is_same_link link m) (is_sewn before m) early) [
        | inl here ↦ or_right (is_sewn before m) (is_sewn (link ∷ new) m) (or_left (is_same_link link m) (is_sewn new m) here)
        | inr there ↦ or_left (is_sewn before m) (is_sewn (link ∷ new) m) there
      ]
      | inr late ↦ or_right (is_sewn before m) (is_sewn (link ∷ new) m) (or_right (is_same_link link m) (is_sewn new m) late)
    ]

    by_test : (t : Bool) → is_sewn before link ≡ t → list_all (known (link ∷ before) new) (links_in rest) ≡ true
        → list_all (known before (links_in (cond t Gap (Sewn number link) ∷ new_moves (link ∷ before) rest))) (link ∷ links_in rest) ≡ true
    by_test true is later =
        rw (
          or_left (is_sewn before link) (is_sewn new link) is,
          all_more (known (link ∷ before) new) (known before new) (from_old is) (links_in rest) later,
        ) refl
    by_test false is later =
        let here : known before (link ∷ new) link ≡ true =
        or_right (is_sewn before link) (is_sewn (link ∷ new) link) (or_left (is_same_link link link) (is_sewn new link)
        (link_found link)) in
        rw (here, all_more (known (link ∷ before) new) (known before (link ∷ new)) from_new (links_in rest) later) refl

pub distinct_links : NewLinksAreDistinct
distinct_links acts = grind (arith, nat_tests, all_distinct [] (needle_moves_of acts), all_known [] (needle_moves_of acts))
