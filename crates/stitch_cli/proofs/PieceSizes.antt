-- The pieces of a drawing have no more lines than the drawing: no line is in two pieces.
use Rattle.std.proofs.Common.{◌≡◌, ◌≤◌, ◌<◌, ℕ, suc, ◌==◌, ◌||◌, Bool, true, false, List, [], ◌∷◌, ◌++◌, length, get_or, All, AllPairs, Contains, sum_by, arith, inl, inr, refl, sym, ◌∙◌, subst}
use Rattle.std.proofs.lemmas.Bool.{and_parts, ne_eqb, or_cases, or_left, or_right}
use Rattle.std.proofs.lemmas.Bool.Decides.{nat_tests}
use Rattle.std.proofs.lemmas.List.{length-append}
use Rattle.std.proofs.lemmas.List.Elements.{All-contains, All-head, All-tail, Contains-append_cases, Contains-get_or, recursion_from_All}
use Rattle.std.proofs.lemmas.List.Kept.{AllPairs-from_increasing}
use Rattle.std.proofs.lemmas.List.Sums.{sum_by-cons}
use Rattle.std.proofs.lemmas.Map.Steps.{length-le_from_distinct_below}
use Rattle.std.proofs.lemmas.Map.Views.{Contains-from_any}
use Rattle.std.proofs.Math.Dec.{eqb}
use Rattle.std.specs.List.{IsDistinct, concat, list_any}
use Rattle.std.specs.List.Sorted.{IsStrictlyIncreasing}
use Rattle.design_model.proofs.CallerLemmas.{same_back}
use Rattle.design_model.specs.Points.{is_same_point}
use Rattle.design_model.specs.declared.point.Point.{Point}
use Rattle.line_graph.specs.Drawings.{DrawingValue, endpoints}
use Rattle.line_graph.specs.Pieces.{AreConnected, ArePieces, IsPathOfLines, LinesTouch, first_line, shares_point, touches}

-- no number is in the list twice
abbrev Different : List ℕ → Type 0
Different [] = Unit {0}
Different (x ∷ xs) = (Contains xs x → ⊥) × Different xs

distinct : (xs : List ℕ) → Different xs → IsDistinct eqb xs
unfolding IsDistinct
distinct [] d = tt
distinct (x ∷ xs) d = (
  recursion_from_All (λ y. eqb x y ≡ false) xs
      (λ k e lt. ne_eqb x (get_or xs k e) (λ same. d.0 (subst (λ (z : ℕ). Contains xs z) (sym same) (Contains-get_or xs k e lt)))),
  distinct xs d.1,
)

both_different : (xs ys : List ℕ) → Different xs → Different ys → ((x : ℕ) → Contains xs x → Contains ys x → ⊥) → Different (xs ++ ys)
both_different [] ys a b apart = b
both_different (x ∷ xs) ys a b apart = (
  λ has. elim (Contains-append_cases xs ys x has) [
    | inl here ↦ a.0 here
    | inr there ↦ apart x (0, omega arith, refl) there
  ],
  both_different xs ys a.1 b (λ y here there. apart y (suc here.0, omega (arith, here.1), here.2) there),
)

rising_different : (xs : List ℕ) → AllPairs (λ x y. x < y) xs → Different xs
rising_different [] pairs = tt
rising_different (x ∷ xs) pairs = (
  λ has. let less = pairs 0 (suc has.0) x (omega arith) (omega (arith, has.1)) in omega (arith, less, has.2),
  rising_different xs (λ i j d less below. pairs (suc i) (suc j) d (omega (arith, less)) (omega (arith, below))),
)

-- a chain of lines leads back, as the lines touch each other
any_more : {X : Type 0} (f g : X → Bool) → ((x : X) → f x ≡ true → g x ≡ true) → (xs : List X) → list_any f xs ≡ true → list_any g xs ≡ true
any_more f g more [] some = some
any_more f g more (x ∷ xs) some = elim (or_cases (f x) (list_any f xs) some) [
  | inl here ↦ or_left (g x) (list_any g xs) (more x here)
  | inr later ↦ or_right (g x) (list_any g xs) (any_more f g more xs later)
]

shared_back : (ps qs : List Point) → shares_point ps qs ≡ true → shares_point qs ps ≡ true
shared_back [] qs shared = absurd cc
shared_back (p ∷ ps) qs shared =
    let goal : Point → Bool = λ q. is_same_point q p || list_any (is_same_point q) ps in
    elim (or_cases (list_any (is_same_point p) qs) (shares_point ps qs) shared) [
      | inl here ↦ any_more (is_same_point p) goal
          (λ q found. or_left (is_same_point q p) (list_any (is_same_point q) ps) (same_back q p ∙ found)) qs here
      | inr later ↦ any_more (λ q. list_any (is_same_point q) ps) goal
          (λ q found. or_right (is_same_point q p) (list_any (is_same_point q) ps) found) qs (shared_back ps qs later)
    ]

touch_back : (a b : _) → touches a b ≡ true → touches b a ≡ true
touch_back a b touch =
    let both = and_parts (a.block == b.block) (shares_point (endpoints a.points) (endpoints b.points)) touch in
    let block : (b.block == a.block) ≡ true = grind (arith, nat_tests, both.0) in
    rw (block, shared_back (endpoints a.points) (endpoints b.points) both.1) refl

leads_on : (d : DrawingValue) (i j k : ℕ) (first then : List ℕ) → IsPathOfLines d i first j → IsPathOfLines d j then k
    → IsPathOfLines d i (first ++ then) k
leads_on d i j k [] then is on = subst (λ (n : ℕ). IsPathOfLines d n then k) (sym is) on
leads_on d i j k (m ∷ first) then is on = (is.0, leads_on d m j k first then is.1 on)

leads_back : (d : DrawingValue) (i j : ℕ) (chain : List ℕ) → IsPathOfLines d i chain j → AreConnected d j i
leads_back d i j [] is = ([], sym is)
leads_back d i j (k ∷ chain) is =
    let back = leads_back d k j chain is.1 in
    (back.0 ++ i ∷ [], leads_on d j k i back.0 (i ∷ []) back.1 (turned is.0, refl))
  where
    turned : LinesTouch d i k → LinesTouch d k i
    turned t = record { one = t.other; other = t.one; one_is = t.other_is; other_is = t.one_is; touch = touch_back t.one t.other t.touch }

-- the lines of a piece, connected to its first one
abbrev IsJoined : DrawingValue → List ℕ → Type 0
IsJoined d piece = All (AreConnected d (first_line piece)) piece

no_common_line : (d : DrawingValue) (a b : List ℕ) (n : ℕ) → IsJoined d a → IsJoined d b
    → (AreConnected d (first_line a) (first_line b) → ⊥) → Contains a n → Contains b n → ⊥
no_common_line d a b n joins_a joins_b apart in_a in_b =
    let to = All-contains (AreConnected d (first_line a)) a n joins_a in_a in
    let from = All-contains (AreConnected d (first_line b)) b n joins_b in_b in
    let back = leads_back d (first_line b) n from.0 from.1 in
    apart (to.0 ++ back.0, leads_on d (first_line a) n (first_line b) to.0 back.0 to.1 back.1)

none_later : (d : DrawingValue) (a : List ℕ) (n : ℕ) → IsJoined d a → Contains a n → (pieces : List (List ℕ)) → All (IsJoined d) pieces
    → ((j : ℕ) (x : List ℕ) → j < length pieces → AreConnected d (first_line a) (first_line (get_or pieces j x)) → ⊥)
    → Contains (concat pieces) n → ⊥
none_later d a n joins in_a [] all apart has = omega (arith, has.1)
none_later d a n joins in_a (b ∷ pieces) all apart has = elim (Contains-append_cases b (concat pieces) n has) [
  | inl here ↦ no_common_line d a b n joins (All-head (IsJoined d) b pieces all) (apart 0 b (omega arith)) in_a here
  | inr later ↦ none_later d a n joins in_a pieces (All-tail (IsJoined d) b pieces all)
      (λ j x below. apart (suc j) x (omega (arith, below))) later
]

lines_different : (d : DrawingValue) (pieces : List (List ℕ)) → All (IsJoined d) pieces
    → AllPairs (λ a b. AreConnected d (first_line a) (first_line b) → ⊥) pieces → All IsStrictlyIncreasing pieces
    → Different (concat pieces)
lines_different d [] joined apart rising = tt
lines_different d (a ∷ pieces) joined apart rising =
    both_different a (concat pieces)
    (rising_different a (AllPairs-from_increasing a (All-head IsStrictlyIncreasing a pieces rising)))
    (lines_different d pieces (All-tail (IsJoined d) a pieces joined)
    (λ i j x less below. apart (suc i) (suc j) x (omega (arith, less)) (omega (arith, below)))
    (All-tail IsStrictlyIncreasing a pieces rising))
    (λ n here there. none_later d a n (All-head (IsJoined d) a pieces joined) here pieces (All-tail (IsJoined d) a pieces joined)
    (λ j x below. apart 0 (suc j) x (omega arith) (omega (arith, below))) there)

lengths_of : (pieces : List (List ℕ)) → sum_by (λ (lines : List ℕ). length lines) pieces ≡ length (concat pieces)
lengths_of [] = refl
lengths_of (a ∷ pieces) =
    omega (arith, sum_by-cons (λ (lines : List ℕ). length lines) a pieces, length-append a (concat pieces), lengths_of pieces)

-- the pieces have no more lines than the drawing
pub few_lines : (d : DrawingValue) (pieces : List (List ℕ)) → ArePieces d pieces
    → sum_by (λ (lines : List ℕ). length lines) pieces ≤ length d.lines
few_lines d pieces are = omega (
  arith,
  lengths_of pieces,
  length-le_from_distinct_below (concat pieces) (length d.lines)
      (distinct (concat pieces) (lines_different d pieces are.joined are.apart are.rising))
      (λ q has. All-contains (λ line. line < length d.lines) (concat pieces) q are.there
      (Contains-from_any {eq = eqb} (λ x y is. grind (arith, nat_tests)) q (concat pieces) has)),
)
