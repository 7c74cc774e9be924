-- Blossoms: odd cycles of odd sets that were shrunk to one set.
use Rattle.std.specs.Prelude.{◌≡◌, ℕ, ◌+◌, ◌%◌, ◌<◌, ◌≤◌, List, [], ◌∷◌, ◌++◌, length, take, drop}
use Rattle.std.specs.List.{flat_map}
use Rattle.odd_sets.specs.Lists.{Each}
use Rattle.odd_sets.specs.DualSets.{DualSet, SlackRow, BlossomEdge, OddSetValue, dual_sets, dual_sets_of, count, height, members_onto, slack_rows_of, IsOddSet}
use Rattle.odd_sets.specs.SlackRows.{vertex_slacks}
use Rattle.odd_sets.specs.TableValue.{TableValue}
use Rattle.odd_sets.specs.declared.odd_set.TightEdge.{TightEdge}
use Rattle.odd_sets.specs.Values.{PartValue}

-- An edge in the other direction.
abbrev pub reversed_edge : TightEdge → TightEdge
reversed_edge l = record { from = l.to; to = l.from }

-- The set of a part, as a list.
abbrev pub part_sets : PartValue → List OddSetValue
part_sets p = p.odd_set ∷ []

-- The members of all parts.
abbrev pub members_in : List PartValue → List ℕ
members_in ps = members_onto [] (flat_map part_sets ps)

-- The sets of the parts, with all sets inside them.
abbrev pub dual_sets_in : List PartValue → List DualSet
dual_sets_in ps = dual_sets_of (flat_map part_sets ps)

-- All blossom edges inside the parts.
abbrev pub blossom_edges_in : List PartValue → List BlossomEdge
blossom_edges_in ps = flat_map (λ (p : PartValue). p.odd_set.blossom_edges) ps

-- The slack rows of the parts and of all sets inside them.
abbrev pub slack_rows_in : List PartValue → List SlackRow
slack_rows_in ps = flat_map (λ (p : PartValue). slack_rows_of p.odd_set) ps

-- The blossom edge from part p to part q, with the duals that its ends add up to.
abbrev pub blossom_edge_of : PartValue → PartValue → BlossomEdge
blossom_edge_of p q = record {
  from = p.next.from;
  to = p.next.to;
  price =
      height p.next.from (dual_sets p.odd_set) + height p.next.to (dual_sets q.odd_set);
}

-- The blossom edges of a path of parts that begins with p.
abbrev pub path_edges : PartValue → List PartValue → List BlossomEdge
path_edges p [] = []
path_edges p (q ∷ qs) = blossom_edge_of p q ∷ path_edges q qs

-- The edge of part p leads from p to part q.
abbrev pub EdgeLeadsTo : PartValue → PartValue → Type 0
EdgeLeadsTo p q = (count p.next.from p.odd_set.members ≡ 1)
    × (count p.next.to q.odd_set.members ≡ 1)

-- A path of parts that begins with p: each edge leads to the part after it.
abbrev pub IsPartPath : PartValue → List PartValue → Type 0
IsPartPath p [] = Unit {0}
IsPartPath p (q ∷ qs) = EdgeLeadsTo p q × IsPartPath q qs

-- The blossom edges of a cycle of parts.
abbrev pub cycle_edges : List PartValue → List BlossomEdge
cycle_edges [] = []
cycle_edges (p ∷ ps) = path_edges p (ps ++ p ∷ [])

-- A cycle of parts: each edge leads to the part after it, and the last one to the first part.
abbrev pub IsPartCycle : List PartValue → Type 0
IsPartCycle [] = Unit {0}
IsPartCycle (p ∷ ps) = IsPartPath p (ps ++ p ∷ [])

-- Each part is an odd set.
abbrev pub AreOddSets : List PartValue → Type 0
AreOddSets ps = Each (λ (p : PartValue). IsOddSet p.odd_set) ps

-- The parts of a blossom: an odd cycle of at least three odd sets.
pub record IsBlossom (parts : List PartValue) : Type 0 where
  pub odd : length parts % 2 ≡ 1
  pub three : 3 ≤ length parts
  pub linked : IsPartCycle parts
  pub kept : AreOddSets parts

-- The members are one vertex where there are no parts, else those of a blossom.
abbrev pub IsVertexOrBlossom : List ℕ → List PartValue → Type 0
IsVertexOrBlossom members [] = length members ≡ 1
IsVertexOrBlossom members (p ∷ ps) = (members ≡ members_in (p ∷ ps)) × IsBlossom (p ∷ ps)

-- The odd set that a list of parts makes, under a key.
abbrev pub odd_set_of : ℕ → List ℕ → ℕ → List ℕ → List PartValue → OddSetValue
odd_set_of key members dual near parts = record {
  key = key;
  members = members;
  dual = dual;
  near = near;
  below = dual_sets_in parts;
  blossom_edges = cycle_edges parts ++ blossom_edges_in parts;
  rows = slack_rows_in parts;
}

-- The odd set of one vertex of the table, with a dual.
abbrev pub vertex_set : ℕ → TableValue → ℕ → ℕ → OddSetValue
vertex_set key t x w = odd_set_of key (x ∷ []) w (vertex_slacks t x) []

-- A list rotated so that the item at the index `at` comes first.
pub record IsRotated {X : Type 0} (old new : List X) : Type 0 where
  pub at : ℕ
  pub within : at < length old
  pub is : new ≡ drop at old ++ take at old

-- The first part holds a vertex.
abbrev pub FirstPartHolds : ℕ → List PartValue → Type 0
FirstPartHolds place [] = ⊥
FirstPartHolds place (p ∷ ps) = 1 ≤ count place p.odd_set.members

-- The part at an index holds a vertex.
abbrev pub PartHoldsAt : ℕ → List PartValue → ℕ → Type 0
PartHoldsAt place ps i = FirstPartHolds place (drop i ps)
