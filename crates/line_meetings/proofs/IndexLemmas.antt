-- Numbers in order, and the parts with their indexes in any order.
use Rattle.std.proofs.Common.{◌≡◌, ℕ, suc, ◌+◌, ◌<◌, ◌≤◌, Bool, true, false, if◌then◌else◌, nat_le, List, [], ◌∷◌, ◌++◌, drop, filter, get_or, length, map, sum_by, take, IsPermutation, refl, ap, sym, ◌∙◌, arith}
use Rattle.std.proofs.Math.Path.{ap₂}
use Rattle.std.proofs.lemmas.List.{drop-drop}
use Rattle.std.proofs.lemmas.List.Sorted.{sum_by-IsPermutation}
use Rattle.std.proofs.lemmas.List.Sums.{sum_by-append, sum_by-cons}
use Rattle.std.specs.List.{range_with_len}
use Rattle.std.specs.List.Sorted.{IsNonDecreasing}
use Rattle.line_meetings.specs.declared.query.Query.{Query}
use Rattle.line_meetings.specs.IndexedParts.{AreIndexed, indexed_at, indexed_from, parts_at}
use Rattle.line_meetings.proofs.Names.{IndexedPart, answers_query, flat_map, matching_indexes, nat_tests, LineSegment}

-- Numbers don't fall, and the first one is k or more.
abbrev Rises : ℕ → List ℕ → Type 0
Rises k [] = Unit {0}
Rises k (x ∷ xs) = (k ≤ x) × Rises x xs

rises_lower : (j k : ℕ) (xs : List ℕ) → j ≤ k → Rises k xs → Rises j xs
rises_lower j k [] less rise = tt
rises_lower j k (x ∷ xs) less rise = (omega (arith, less, rise.0), rise.1)

rises_sorted : (k : ℕ) (xs : List ℕ) → ((d : ℕ) → 0 < length xs → k ≤ get_or xs 0 d) → IsNonDecreasing xs → Rises k xs
rises_sorted k [] first up = tt
rises_sorted k (x ∷ xs) first up = (
  first 0 (omega arith),
  rises_sorted x xs (λ d some. up 0 1 d (omega arith) (omega (arith, some)))
      (λ i j d less below. up (suc i) (suc j) d (omega (arith, less)) (omega (arith, below))),
)

-- 1 for a number that is k or less
abbrev is_most : ℕ → ℕ → ℕ
is_most k n = if nat_le n k then 1 else 0

most_itself : (k : ℕ) → is_most k k ≡ 1
most_itself k = grind (arith, nat_tests)

not_most : (k n : ℕ) → k < n → is_most k n ≡ 0
not_most k n less = grind (arith, nat_tests, less)

none_most : (j k : ℕ) (xs : List ℕ) → Rises k xs → j < k → sum_by (is_most j) xs ≡ 0
none_most j k [] rise less = refl
none_most j k (x ∷ xs) rise less =
    sum_by-cons (is_most j) x xs
    ∙ ap₂ (λ (m n : ℕ). m + n) (not_most j x (omega (arith, less, rise.0))) (none_most j x xs rise.1 (omega (arith, less, rise.0)))

-- sums over numbers in order tell the first ones
not_less : (x y : ℕ) (xs ys : List ℕ) → Rises y ys → sum_by (is_most x) (x ∷ xs) ≡ sum_by (is_most x) (y ∷ ys) → x < y → ⊥
not_less x y xs ys rise same less =
    let one : is_most x x + sum_by (is_most x) xs ≡ is_most x y + sum_by (is_most x) ys =
    sym (sum_by-cons (is_most x) x xs) ∙ same ∙ sum_by-cons (is_most x) y ys in
    omega (arith, one, most_itself x, not_most x y less, none_most x y ys rise less)

-- Numbers in order over which all sums are the same are the same.
same_numbers : (j k : ℕ) (xs ys : List ℕ) → Rises j xs → Rises k ys → ((f : ℕ → ℕ) → sum_by f xs ≡ sum_by f ys) → xs ≡ ys
same_numbers j k [] [] rise up same = refl
same_numbers j k [] (y ∷ ys) rise up same =
    let one : 0 ≡ 1 + sum_by (λ n. 1) ys = same (λ n. 1) ∙ sum_by-cons (λ n. 1) y ys in
    absurd (omega (arith, one))
same_numbers j k (x ∷ xs) [] rise up same =
    let one : 1 + sum_by (λ n. 1) xs ≡ 0 = sym (sum_by-cons (λ n. 1) x xs) ∙ same (λ n. 1) in
    absurd (omega (arith, one))
same_numbers j k (x ∷ xs) (y ∷ ys) rise up same =
    ap₂ (λ (n : ℕ) (ns : List ℕ). n ∷ ns) first (same_numbers x y xs ys rise.1 up.1 rest)
  where
    first : x ≡ y
    first = omega (arith, not_less x y xs ys up.1 (same (is_most x)), not_less y x ys xs rise.1 (sym (same (is_most y))))

    rest : (f : ℕ → ℕ) → sum_by f xs ≡ sum_by f ys
    rest f =
        let one : f x + sum_by f xs ≡ f y + sum_by f ys = sym (sum_by-cons f x xs) ∙ same f ∙ sum_by-cons f y ys in
        omega (arith, one, ap f first)

-- what is left after one more
drop_next : (k : ℕ) (all rest : List LineSegment) (s : LineSegment) → drop k all ≡ s ∷ rest → drop (k + 1) all ≡ rest
drop_next k all rest s at = sym (drop-drop 1 k all) ∙ ap (drop 1) at

-- a sum over matching indexes is one over the parts
sum_matching : (f : ℕ → ℕ) (q : Query) (some : List IndexedPart)
    → sum_by f (matching_indexes q some) ≡ sum_by (λ p. if answers_query q p.part then f p.index else 0) some
sum_matching f q [] = refl
sum_matching f q (p ∷ rest) =
    by_test (answers_query q p.part) (sum_matching f q rest)
    ∙ sym (sum_by-cons (λ (t : IndexedPart). if answers_query q t.part then f t.index else 0) p rest)
  where
    by_test : (b : Bool)
        → sum_by f (matching_indexes q rest) ≡ sum_by (λ t. if answers_query q t.part then f t.index else 0) rest
        → sum_by f (map (λ (t : IndexedPart). t.index) (if b then p ∷ filter (λ (t : IndexedPart). answers_query q t.part) rest
        else filter (λ (t : IndexedPart). answers_query q t.part) rest))
        ≡ (if b then f p.index else 0) + sum_by (λ t. if answers_query q t.part then f t.index else 0) rest
    by_test true later = sum_by-cons f p.index (matching_indexes q rest) ∙ ap (λ (n : ℕ). f p.index + n) later
    by_test false later = later ∙ omega arith

-- matching indexes are in order where the parts are
matching_rises : (k : ℕ) (q : Query) (parts : List LineSegment) → Rises k (matching_indexes q (indexed_from k parts))
matching_rises k q [] = tt
matching_rises k q (s ∷ rest) = by_test (answers_query q s) (matching_rises (k + 1) q rest)
  where
    by_test : (b : Bool) → Rises (k + 1) (matching_indexes q (indexed_from (k + 1) rest))
        → Rises k (map (λ (t : IndexedPart). t.index) (if b then record { index = k; part = s }
        ∷ filter (λ (t : IndexedPart). answers_query q t.part) (indexed_from (k + 1) rest)
        else filter (λ (t : IndexedPart). answers_query q t.part) (indexed_from (k + 1) rest)))
    by_test true later = (omega arith, rises_lower k (k + 1) (matching_indexes q (indexed_from (k + 1) rest)) (omega arith) later)
    by_test false later = rises_lower k (k + 1) (matching_indexes q (indexed_from (k + 1) rest)) (omega arith) later

-- the parts with matching indexes match
matching_parts : (k : ℕ) (q : Query) (all rest : List LineSegment) → drop k all ≡ rest
    → parts_at all (matching_indexes q (indexed_from k rest)) ≡ filter (answers_query q) rest
matching_parts k q all [] at = refl
matching_parts k q all (s ∷ rest) at = by_test (answers_query q s) (matching_parts (k + 1) q all rest (drop_next k all rest s at))
  where
    by_test : (b : Bool) → parts_at all (matching_indexes q (indexed_from (k + 1) rest)) ≡ filter (answers_query q) rest
        → parts_at all (map (λ (t : IndexedPart). t.index) (if b then record { index = k; part = s }
        ∷ filter (λ (t : IndexedPart). answers_query q t.part) (indexed_from (k + 1) rest)
        else filter (λ (t : IndexedPart). answers_query q t.part) (indexed_from (k + 1) rest)))
        ≡ (if b then s ∷ filter (answers_query q) rest else filter (answers_query q) rest)
    by_test true later = ap₂ (λ (xs ys : List LineSegment). xs ++ ys) (ap (take 1) at) later
    by_test false later = later

-- The parts at the indexes that were found, in order, are those that a question is about.
pub matches_in_order : (q : Query) (parts : List LineSegment) (some : List IndexedPart) (found sorted : List ℕ) → AreIndexed parts some
    → found ≡ matching_indexes q some → IsPermutation found sorted → IsNonDecreasing sorted
    → parts_at parts sorted ≡ filter (answers_query q) parts
matches_in_order q parts some found sorted are is moved up = ap (parts_at parts) same ∙ matching_parts 0 q parts parts refl
  where
    same : sorted ≡ matching_indexes q (indexed_from 0 parts)
    same = same_numbers 0 0 sorted (matching_indexes q (indexed_from 0 parts)) (rises_sorted 0 sorted (λ d there. omega arith) up)
        (matching_rises 0 q parts) (λ f. sum_by-IsPermutation f found sorted moved ∙ ap (sum_by f) is ∙ sum_matching f q some
        ∙ are (λ p. if answers_query q p.part then f p.index else 0) ∙ sym (sum_matching f q (indexed_from 0 parts)))

-- all parts at their indexes
all_indexed : (k : ℕ) (all rest : List LineSegment) → drop k all ≡ rest
    → flat_map (indexed_at all) (range_with_len k (length rest)) ≡ indexed_from k rest
all_indexed k all [] at = refl
all_indexed k all (s ∷ rest) at =
    ap₂ (λ (xs ys : List IndexedPart). xs ++ ys)
    (ap (λ (some : List LineSegment). map (λ (t : LineSegment). record { index = k; part = t }) (take 1 some)) at)
    (all_indexed (k + 1) all rest (drop_next k all rest s at))

module _ {X : Type 0} (index : X → ℕ) where
  flat_mapped : (parts : List LineSegment) (xs : List X)
      → flat_map (λ x. indexed_at parts (index x)) xs ≡ flat_map (indexed_at parts) (map index xs)
  flat_mapped parts [] = refl
  flat_mapped parts (x ∷ xs) = ap (λ (some : List IndexedPart). indexed_at parts (index x) ++ some) (flat_mapped parts xs)

  sum_flat : (f : IndexedPart → ℕ) (parts : List LineSegment) (xs : List X)
      → sum_by f (flat_map (λ x. indexed_at parts (index x)) xs) ≡ sum_by (λ x. sum_by f (indexed_at parts (index x))) xs
  sum_flat f parts [] = refl
  sum_flat f parts (x ∷ xs) =
      sum_by-append f (indexed_at parts (index x)) (flat_map (λ x. indexed_at parts (index x)) xs)
      ∙ ap (λ (n : ℕ). sum_by f (indexed_at parts (index x)) + n) (sum_flat f parts xs)
      ∙ sym (sum_by-cons (λ x. sum_by f (indexed_at parts (index x))) x xs)

  -- Parts by their indexes in any order are those of the list.
  pub indexed_in_order : (parts : List LineSegment) (old new : List X) (some : List IndexedPart)
      → map index old ≡ range_with_len 0 (length parts) → IsPermutation old new
      → some ≡ flat_map (λ x. indexed_at parts (index x)) new → AreIndexed parts some
  indexed_in_order parts old new some all moved is = λ f.
      ap (sum_by f) is
      ∙ sum_flat f parts new ∙ sum_by-IsPermutation (λ x. sum_by f (indexed_at parts (index x))) old new moved
      ∙ sym (sum_flat f parts old)
      ∙ ap (sum_by f) (flat_mapped parts old ∙ ap (flat_map (indexed_at parts)) all ∙ all_indexed 0 parts parts refl)
