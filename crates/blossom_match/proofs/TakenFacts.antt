-- Taking sets and matches apart: the pairs and moats that it adds, and what they pay.
use Rattle.std.proofs.Common.{◌≡◌, ℕ, ◌+◌, ◌*◌, ◌%◌, ◌≤◌, List, [], ◌∷◌, ◌++◌, length, refl, arith}
use Rattle.blossom_match.proofs.Names.{AreLaminar, AreMoatsIn, Each, IsMatch, IsTakingApart, IsTightMatch, MatchValue, Moat, Pair, TableValue, TakesApartMatches, TakesApartSet, count, dual_load, match_dual_sets, match_members, moat_load, moat_of_set, pair_ends_at, pairs_cost, total, width_of}
use Rattle.blossom_match.proofs.SearchFacts.{pair, place}

-- a set has a moat of its dual, unless that is 0
pub known_moat : (moat_of_set (1 ∷ 2 ∷ 3 ∷ []) 4 ≡ record { members = 1 ∷ 2 ∷ 3 ∷ []; width = 4 } ∷ [])
    × (moat_of_set (1 ∷ 2 ∷ 3 ∷ []) 0 ≡ [])
known_moat = (refl, refl)

-- moats among vertices: odd, wide, within them, all different, nested or apart
abbrev moat : List ℕ → ℕ → Moat
moat members width = record { members = members; width = width }

pub known_moats : (m k : Moat) → AreMoatsIn (1 ∷ 2 ∷ 3 ∷ []) (m ∷ k ∷ [])
    → (length k.members % 2 ≡ 1) × (1 ≤ k.width) × (count 2 k.members ≤ 1) × (count 4 k.members ≤ 0) × AreLaminar m k
known_moats m k are = (are.each.1.0.odd, are.each.1.0.wide, are.each.1.0.within 2, are.each.1.0.within 4, are.apart.0.0)

-- a set of one vertex of dual 2 that is paired outside: nothing is paid for, and its moat is added
pub known_vertex : (t : TableValue) (old new : List Pair) (was now : List Moat) (is : TakesApartSet 3 (place 3 2) old new was now)
    → (2 * pairs_cost t new + 2 ≡ 2 * pairs_cost t old + 2) × (pair_ends_at new 3 + 1 ≡ pair_ends_at old 3 + 1)
    × (width_of now ≡ width_of was + 2) × (moat_load now 3 4 ≡ moat_load was 3 4 + 2) × (now ≡ was ++ is.moats)
    × AreMoatsIn (3 ∷ []) is.moats
known_vertex t old new was now is = (is.paid t tt, is.places 3, is.widths, is.loads 3 4, is.is, is.lie)

-- a match of two vertices of dual 2 each: its pair is paid by both moats
pub known_match : (t : TableValue) (old new : List Pair) (was now : List Moat) (is : TakesApartMatches (pair ∷ []) old new was now)
    → IsTightMatch t pair → (2 * pairs_cost t new ≡ 2 * pairs_cost t old + 4) × (pair_ends_at new 4 ≡ pair_ends_at old 4 + 1)
    × (width_of now ≡ width_of was + 4) × (moat_load now 3 4 ≡ moat_load was 3 4 + 4) × (now ≡ was ++ is.moats)
    × AreMoatsIn (3 ∷ 4 ∷ []) is.moats
known_match t old new was now is tight = (is.paid t (tight, tt), is.places 4, is.widths, is.loads 3 4, is.is, is.lie)

-- while matches are taken apart: what is done and what is left are all
pub known_taking : (t : TableValue) (left : List MatchValue) (old now : List Pair) (was so_far : List Moat)
    (is : IsTakingApart (pair ∷ []) left old now was so_far)
    → Each IsMatch left × (length (match_dual_sets left) ≤ 2) × (count 4 is.taken + count 4 (match_members left) ≡ 1)
    × (pair_ends_at now 4 + count 4 (match_members left) ≡ pair_ends_at old 4 + 1)
    × (width_of so_far + total (match_dual_sets left) ≡ width_of was + 4)
    × (moat_load so_far 3 4 + dual_load 3 4 (match_dual_sets left) ≡ moat_load was 3 4 + 4)
    × (so_far ≡ was ++ is.moats) × AreMoatsIn is.taken is.moats
    × (IsTightMatch t pair → Each (IsTightMatch t) left × (2 * pairs_cost t now + total (match_dual_sets left) ≡ 2 * pairs_cost t old + 4))
known_taking t left old now was so_far is = (
  is.joined,
  is.fewer,
  is.rest 4,
  is.places 4,
  is.widths,
  is.loads 3 4,
  is.is,
  is.lie,
  λ tight. (is.stays t (tight, tt), is.paid t (tight, tt)),
)

pub known_taking_twice : (left : List MatchValue) (old now : List Pair) (was so_far : List Moat)
    → IsTakingApart (pair ∷ pair ∷ []) left old now was so_far → ⊥
known_taking_twice left old now was so_far is = twice (is.once 3)
  where
    twice : 2 ≤ 1 → ⊥
    twice less = omega (arith, less)
