-- The pairs and moats that taking odd sets apart adds.
use Rattle.std.specs.Prelude.{◌≡◌, ℕ, ◌+◌, ◌*◌, ◌%◌, ◌≤◌, List, [], ◌∷◌, ◌++◌, length, nat_lt, if◌then◌else◌}
use Rattle.odd_sets.specs.Lists.{Each, EachPair}
use Rattle.odd_sets.specs.DualSets.{OddSetValue, dual_sets, count, height, one_if_equal, dual_load, total, AreTightInside}
use Rattle.odd_sets.specs.MatchedSets.{match_members, match_dual_sets, IsMatch, IsTightMatch}
use Rattle.odd_sets.specs.TableValue.{TableValue}
use Rattle.blossom_match.specs.Matchings.{pairs_cost, pair_ends_at, moat_load, width_of, AreLaminar}
use Rattle.blossom_match.specs.declared.matching.Moat.{Moat}
use Rattle.blossom_match.specs.declared.matching.Pair.{Pair}
use Rattle.odd_sets.specs.Values.{MatchValue}

-- The moat of a set; none where its dual is 0.
abbrev pub moat_of_set : List ℕ → ℕ → List Moat
moat_of_set members width = if nat_lt 0 width then record { members = members; width = width } ∷ []
    else []

-- An odd set with a width, whose members are among the given vertices.
pub record IsOddMoatIn (places : List ℕ) (m : Moat) : Type 0 where
  pub odd : length m.members % 2 ≡ 1
  pub within : (x : ℕ) → count x m.members ≤ count x places
  pub wide : 1 ≤ m.width

-- Odd sets among the given vertices, all different, and each two of them nested or disjoint.
pub record AreMoatsIn (places : List ℕ) (moats : List Moat) : Type 0 where
  pub each : Each (IsOddMoatIn places) moats
  pub apart : EachPair AreLaminar moats

-- The pairs inside a set and its moats are appended, where its member `left` is paired outside.
pub record TakesApartSet (left : ℕ) (s : OddSetValue) (old new : List Pair)
    (was now : List Moat) : Type 0 where
  pub paid : (t : TableValue) → AreTightInside t s.blossom_edges
      → 2 * pairs_cost t new + height left (dual_sets s)
      ≡ 2 * pairs_cost t old + total (dual_sets s)
  pub places : (x : ℕ) → pair_ends_at new x + one_if_equal x left
      ≡ pair_ends_at old x + count x s.members
  pub widths : width_of now ≡ width_of was + total (dual_sets s)
  pub loads : (a b : ℕ) → moat_load now a b ≡ moat_load was a b + dual_load a b (dual_sets s)
  pub moats : List Moat
  pub is : now ≡ was ++ moats
  pub lie : AreMoatsIn s.members moats

-- The pairs of the matches, the pairs inside them and their moats are appended.
pub record TakesApartMatches (cs : List MatchValue) (old new : List Pair)
    (was now : List Moat) : Type 0 where
  pub paid : (t : TableValue) → Each (IsTightMatch t) cs → 2 * pairs_cost t new
      ≡ 2 * pairs_cost t old + total (match_dual_sets cs)
  pub places : (x : ℕ) → pair_ends_at new x ≡ pair_ends_at old x + count x (match_members cs)
  pub widths : width_of now ≡ width_of was + total (match_dual_sets cs)
  pub loads : (a b : ℕ) → moat_load now a b ≡ moat_load was a b + dual_load a b (match_dual_sets cs)
  pub moats : List Moat
  pub is : now ≡ was ++ moats
  pub lie : AreMoatsIn (match_members cs) moats

-- The loop invariant of taking matches apart, with the matches that remain.
pub record IsTakingApart (all left : List MatchValue) (old now : List Pair)
    (was so_far : List Moat) : Type 0 where
  pub joined : Each IsMatch left
  pub once : (x : ℕ) → count x (match_members all) ≤ 1
  pub fewer : length (match_dual_sets left) ≤ length (match_dual_sets all)
  pub stays : (t : TableValue) → Each (IsTightMatch t) all → Each (IsTightMatch t) left
  pub paid : (t : TableValue) → Each (IsTightMatch t) all
      → 2 * pairs_cost t now + total (match_dual_sets left)
      ≡ 2 * pairs_cost t old + total (match_dual_sets all)
  pub places : (x : ℕ) → pair_ends_at now x + count x (match_members left)
      ≡ pair_ends_at old x + count x (match_members all)
  pub widths : width_of so_far + total (match_dual_sets left)
      ≡ width_of was + total (match_dual_sets all)
  pub loads : (a b : ℕ) → moat_load so_far a b + dual_load a b (match_dual_sets left)
      ≡ moat_load was a b + dual_load a b (match_dual_sets all)
  pub taken : List ℕ
  pub rest : (x : ℕ) → count x taken + count x (match_members left) ≡ count x (match_members all)
  pub moats : List Moat
  pub is : so_far ≡ was ++ moats
  pub lie : AreMoatsIn taken moats
