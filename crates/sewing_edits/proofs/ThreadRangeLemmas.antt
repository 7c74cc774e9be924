-- Needles in their range.
use Rattle.std.proofs.Common.{◌≡◌, ℕ, zero, suc, Bool, true, List, [], ◌∷◌, ◌++◌, IsTrue, reverse, take, refl, sym, ap, subst, ◌∙◌}
use Rattle.std.proofs.lemmas.Bool.{and_from, and_parts}
use Rattle.std.proofs.lemmas.List.{append-nil, append_assoc, reverse-append}
use Rattle.std.specs.List.{list_all}
use Rattle.design_model.specs.declared.point.Point.{Point}
use Rattle.design_model.specs.declared.point.TheConstants.{NEEDLE_LIMIT}
use Rattle.design_model.specs.Points.{is_point_within}
use Rattle.design_review.specs.declared.thread_needles.ThreadNeedle.{ThreadNeedle}
use Rattle.design_review.specs.Ties.{backwards, with_next_floats}
use Rattle.sewing_edits.specs.ThreadRanges.{AreNeedlesInRange}
use Rattle.sewing_edits.specs.ThreadTies.{sewn_to}

-- The test whether a needle is in its range.
abbrev pub is_in_range : ThreadNeedle → Bool
is_in_range n = is_point_within NEEDLE_LIMIT n.at

pub joined_in_range : (xs ys : List ThreadNeedle) → AreNeedlesInRange xs → AreNeedlesInRange ys → AreNeedlesInRange (xs ++ ys)
joined_in_range [] ys first second = second
joined_in_range (n ∷ xs) ys first second =
    let both = and_parts (is_in_range n) (list_all is_in_range xs) first in
    and_from (is_in_range n) (list_all is_in_range (xs ++ ys)) both.0 (joined_in_range xs ys both.1 second)

pub one_more_in_range : (xs : List ThreadNeedle) (n : ThreadNeedle) → AreNeedlesInRange xs → IsTrue (is_point_within NEEDLE_LIMIT n.at)
    → AreNeedlesInRange (xs ++ n ∷ [])
one_more_in_range xs n all here = joined_in_range xs (n ∷ []) all (and_from (is_in_range n) true here refl)

-- needles in the other order
onto_in_range : (xs ys : List ThreadNeedle) → AreNeedlesInRange xs → AreNeedlesInRange ys → AreNeedlesInRange (reverse xs ++ ys)
onto_in_range [] ys first second = second
onto_in_range (n ∷ xs) ys first second =
    let both = and_parts (is_in_range n) (list_all is_in_range xs) first in
    subst AreNeedlesInRange (sym (moved n xs ys)) (onto_in_range xs (n ∷ ys) both.1
    (and_from (is_in_range n) (list_all is_in_range ys) both.0 second))
  where
    moved : (n : ThreadNeedle) (xs ys : List ThreadNeedle) → reverse (n ∷ xs) ++ ys ≡ reverse xs ++ n ∷ ys
    moved n xs ys = ap (λ zs. zs ++ ys) (reverse-append (n ∷ []) xs) ∙ append_assoc (reverse xs) (n ∷ []) ys

pub turned_in_range : (xs : List ThreadNeedle) → AreNeedlesInRange xs → AreNeedlesInRange (reverse xs)
turned_in_range xs all = subst AreNeedlesInRange (append-nil (reverse xs)) (onto_in_range xs [] all refl)

next_in_range : (xs : List ThreadNeedle) → AreNeedlesInRange xs → AreNeedlesInRange (with_next_floats xs)
next_in_range [] all = all
next_in_range (n ∷ xs) all =
    let both = and_parts (is_in_range n) (list_all is_in_range xs) all in
    and_from (is_in_range n) (list_all is_in_range (with_next_floats xs)) both.0 (next_in_range xs both.1)

pub backwards_in_range : (xs : List ThreadNeedle) → AreNeedlesInRange xs → AreNeedlesInRange (backwards xs)
backwards_in_range xs all = turned_in_range (with_next_floats xs) (next_in_range xs all)

pub taken_in_range : (i : ℕ) (xs : List ThreadNeedle) → AreNeedlesInRange xs → AreNeedlesInRange (take i xs)
taken_in_range zero xs all = refl
taken_in_range (suc i) [] all = all
taken_in_range (suc i) (n ∷ xs) all =
    let both = and_parts (is_in_range n) (list_all is_in_range xs) all in
    and_from (is_in_range n) (list_all is_in_range (take i xs)) both.0 (taken_in_range i xs both.1)

pub four_in_range : (p h q : Point) → IsTrue (is_point_within NEEDLE_LIMIT p) → IsTrue (is_point_within NEEDLE_LIMIT h)
    → IsTrue (is_point_within NEEDLE_LIMIT q) → AreNeedlesInRange (sewn_to p ∷ sewn_to h ∷ sewn_to q ∷ sewn_to h ∷ [])
four_in_range p h q first half far = and_from (is_point_within NEEDLE_LIMIT p)
    (list_all is_in_range (sewn_to h ∷ sewn_to q ∷ sewn_to h ∷ [])) first
    (and_from (is_point_within NEEDLE_LIMIT h) (list_all is_in_range (sewn_to q ∷ sewn_to h ∷ [])) half
    (and_from (is_point_within NEEDLE_LIMIT q) (list_all is_in_range (sewn_to h ∷ [])) far
    (and_from (is_point_within NEEDLE_LIMIT h) true half refl)))
