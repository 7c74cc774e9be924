-- The opening of an odd set at one of its members: one part keeps the member, the others are
-- matched.
use Rattle.std.specs.Prelude.{◌≡◌, ℕ, ◌+◌, ◌%◌, ◌≤◌, List, [], length, Option, Some, None}
use Rattle.odd_sets.specs.TableValue.{TableValue}
use Rattle.odd_sets.specs.Lists.{Each}
use Rattle.odd_sets.specs.DualSets.{DualSet, OddSetValue, IsAdditive, dual_sets, count, height, one_if_equal, AreTightInside}
use Rattle.odd_sets.specs.MatchedSets.{match_members, match_dual_sets, IsMatch, IsTightMatch}
use Rattle.odd_sets.specs.Values.{MatchValue}

-- The sets of the part that keeps the member; none for a single vertex.
abbrev pub core_dual_sets : Option OddSetValue → List DualSet
core_dual_sets None = []
core_dual_sets (Some s) = dual_sets s

-- The number of times that the part which keeps the member has x; for a single vertex, whether x is
-- that vertex.
abbrev pub core_count : ℕ → ℕ → Option OddSetValue → ℕ
core_count left x None = one_if_equal x left
core_count left x (Some s) = count x s.members

-- The part that keeps the member holds it, and the others hold some vertex.
abbrev pub CoreHolds : ℕ → Option OddSetValue → List MatchValue → Type 0
CoreHolds left None cs = Unit {0}
CoreHolds left (Some s) cs = (count left s.members ≡ 1)
    × ((x : ℕ) × (1 ≤ count x (match_members cs)))

-- The blossom edges inside the part that keeps the member are tight.
abbrev pub CoreIsTight : TableValue → Option OddSetValue → Type 0
CoreIsTight d None = Unit {0}
CoreIsTight d (Some s) = AreTightInside d s.blossom_edges

-- The result of opening a set at the member `left`: the part that keeps it, and the other parts
-- matched two by two.
pub record OpensAt (left : ℕ) (s : OddSetValue) (core : Option OddSetValue)
    (matches : List MatchValue) : Type 0 where
  pub odd : length s.members % 2 ≡ 1
  pub sums : (F : List DualSet → ℕ) → IsAdditive F → F s.below
      ≡ F (core_dual_sets core) + F (match_dual_sets matches)
  pub tall : height left s.below ≡ height left (core_dual_sets core)
  pub places : (x : ℕ) → count x s.members ≡ core_count left x core
      + count x (match_members matches)
  pub holds : CoreHolds left core matches
  pub joined : Each IsMatch matches
  pub paid : (d : TableValue) → AreTightInside d s.blossom_edges → CoreIsTight d core
      × Each (IsTightMatch d) matches
