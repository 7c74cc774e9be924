-- Odd sets of vertices with dual variables, as flat lists. Duals and heights count halves of a
-- step.
use Rattle.std.specs.Prelude.{◌≡◌, ℕ, ◌+◌, ◌-◌, ◌*◌, ◌%◌, List, [], ◌∷◌, ◌++◌, length, eqb, cond}
use Rattle.std.specs.List.{flat_map}
use Rattle.odd_sets.specs.Lists.{Each, sum_over}
use Rattle.odd_sets.specs.TableValue.{TableValue}
use Rattle.odd_sets.specs.Tables.{entry}

-- A set with its dual variable, under the key of its slot.
pub record DualSet : Type 0 where
  pub key : ℕ
  pub members : List ℕ
  pub dual : ℕ

-- An edge between two parts of a blossom, and the duals inside the blossom that its ends add up to.
pub record BlossomEdge : Type 0 where
  pub from : ℕ
  pub to : ℕ
  pub price : ℕ

-- A row of slacks: the members of a set, all sets inside it, and a cell for each vertex of the
-- table.
pub record SlackRow : Type 0 where
  pub members : List ℕ
  pub below : List DualSet
  pub cells : List ℕ

-- An odd set, a vertex or a blossom: the key, members, dual and slacks. Lists have all sets inside
-- it, their blossom edges and their slack rows.
pub record OddSetValue : Type 0 where
  pub key : ℕ
  pub members : List ℕ
  pub dual : ℕ
  pub near : List ℕ
  pub below : List DualSet
  pub blossom_edges : List BlossomEdge
  pub rows : List SlackRow

-- An odd set and all sets inside it, with their duals.
abbrev pub dual_sets : OddSetValue → List DualSet
dual_sets s = record { key = s.key; members = s.members; dual = s.dual } ∷ s.below

-- All sets of a list of odd sets, with the sets inside them.
abbrev pub dual_sets_of : List OddSetValue → List DualSet
dual_sets_of ss = flat_map dual_sets ss

-- The members of a list of odd sets, before the given vertices.
abbrev pub members_onto : List ℕ → List OddSetValue → List ℕ
members_onto places [] = places
members_onto places (s ∷ ss) = s.members ++ members_onto places ss

-- The slack row of an odd set, and those of all sets inside it.
abbrev pub slack_rows_of : OddSetValue → List SlackRow
slack_rows_of s = record { members = s.members; below = s.below; cells = s.near } ∷ s.rows

-- An odd set with another dual.
abbrev pub with_dual : ℕ → OddSetValue → OddSetValue
with_dual w s = record {
  key = s.key;
  members = s.members;
  dual = w;
  near = s.near;
  below = s.below;
  blossom_edges = s.blossom_edges;
  rows = s.rows;
}

-- 1 where two numbers are equal, else 0.
abbrev pub one_if_equal : ℕ → ℕ → ℕ
one_if_equal x y = cond (eqb x y) 1 0

-- The number of times that a list has a vertex.
abbrev pub count : ℕ → List ℕ → ℕ
count x [] = 0
count x (y ∷ ys) = one_if_equal x y + count x ys

-- The number of sets of a list under a key.
abbrev pub key_count : ℕ → List DualSet → ℕ
key_count k bs = sum_over (λ (b : DualSet). one_if_equal k b.key) bs

-- The height of a vertex: the duals of the sets that hold it, added up.
abbrev pub height : ℕ → List DualSet → ℕ
height x bs = sum_over (λ (b : DualSet). b.dual * count x b.members) bs

-- The sum of all duals.
abbrev pub total : List DualSet → ℕ
total bs = sum_over (λ (b : DualSet). b.dual) bs

-- The distance of two counts: 1 where a set holds exactly one of two vertices.
abbrev pub apart : ℕ → ℕ → ℕ
apart m n = (m - n) + (n - m)

-- The load on two vertices: the duals of the sets that hold exactly one of them, added up.
abbrev pub dual_load : ℕ → ℕ → List DualSet → ℕ
dual_load a b bs = sum_over (λ (s : DualSet). s.dual * apart (count a s.members)
    (count b s.members)) bs

-- A quantity of lists of sets that is additive over appending.
abbrev pub IsAdditive : (List DualSet → ℕ) → Type 0
IsAdditive F = (xs ys : List DualSet) → F (xs ++ ys) ≡ F xs + F ys

-- A set doesn't hold a vertex.
abbrev pub IsOutside : ℕ → DualSet → Type 0
IsOutside x b = count x b.members ≡ 0

-- No set of a list holds a vertex.
abbrev pub NoneHold : ℕ → List DualSet → Type 0
NoneHold x bs = Each (IsOutside x) bs

-- A blossom edge is tight: twice its distance equals the duals that its ends add up to.
abbrev pub IsTightInside : TableValue → BlossomEdge → Type 0
IsTightInside d t = 2 * entry d t.from t.to ≡ t.price

-- All blossom edges of a list are tight.
abbrev pub AreTightInside : TableValue → List BlossomEdge → Type 0
AreTightInside d ts = Each (IsTightInside d) ts

-- The invariant of an odd set: its size is odd, sets inside it hold only its members, and without
-- sets inside it is one vertex.
pub record IsOddSet (s : OddSetValue) : Type 0 where
  pub odd : length s.members % 2 ≡ 1
  pub covered : (x : ℕ) → count x s.members ≡ 0 → NoneHold x s.below
  pub single : length s.below ≡ 0 → length s.members ≡ 1
