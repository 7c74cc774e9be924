-- Matched sets.
use Rattle.std.specs.Prelude.{◌≡◌, ℕ, ◌+◌, ◌*◌, ◌≤◌, List, [], ◌∷◌, drop}
use Rattle.std.specs.List.{flat_map}
use Rattle.odd_sets.specs.TableValue.{TableValue}
use Rattle.odd_sets.specs.Tables.{entry}
use Rattle.odd_sets.specs.DualSets.{DualSet, OddSetValue, dual_sets, dual_sets_of, count, height, members_onto, AreTightInside}
use Rattle.odd_sets.specs.Values.{MatchValue, PartValue}

-- The matches of a path of parts: the first with the second, the third with the fourth, and on.
abbrev pub matches_along : List PartValue → List MatchValue
matches_along [] = []
matches_along (p ∷ []) = []
matches_along (p ∷ q ∷ ps) = record { first = p.odd_set; second = q.odd_set; link = p.next }
    ∷ matches_along ps

-- The two sets of a match.
abbrev pub match_sets : MatchValue → List OddSetValue
match_sets c = c.first ∷ c.second ∷ []

-- The members of all matches.
abbrev pub match_members : List MatchValue → List ℕ
match_members cs = members_onto [] (flat_map match_sets cs)

-- The sets of the matches, with all sets inside them.
abbrev pub match_dual_sets : List MatchValue → List DualSet
match_dual_sets cs = dual_sets_of (flat_map match_sets cs)

-- The edge of a match leads from its first set to its second.
pub record IsMatch (c : MatchValue) : Type 0 where
  pub from : count c.link.from c.first.members ≡ 1
  pub to : count c.link.to c.second.members ≡ 1

-- A tight match: its edge is tight, and so is each blossom edge inside it.
pub record IsTightMatch (d : TableValue) (c : MatchValue) : Type 0 where
  pub link : 2 * entry d c.link.from c.link.to ≡ height c.link.from (dual_sets c.first)
      + height c.link.to (dual_sets c.second)
  pub first : AreTightInside d c.first.blossom_edges
  pub second : AreTightInside d c.second.blossom_edges

-- The first match holds a vertex.
abbrev pub FirstMatchHolds : ℕ → List MatchValue → Type 0
FirstMatchHolds place [] = ⊥
FirstMatchHolds place (c ∷ cs) = 1 ≤ count place c.first.members + count place c.second.members

-- The match at an index holds a vertex.
abbrev pub MatchHolds : ℕ → List MatchValue → ℕ → Type 0
MatchHolds place cs i = FirstMatchHolds place (drop i cs)
