-- Odd sets stored in a slab. A slot has what doesn't change while its set exists, and refers to the
-- parts of a blossom by key. The dual is stored beside the key, in the handle.
use Rattle.std.specs.Prelude.{◌≡◌, ◌≢◌, ℕ, zero, suc, ◌≤◌, List, [], ◌∷◌, map, length, Option, Some, None}
use Rattle.slab.specs.Slab.{Slab, get, ContainsKey}
use Rattle.odd_sets.specs.Lists.{Each}
use Rattle.odd_sets.specs.DualSets.{DualSet, OddSetValue, key_count}
use Rattle.odd_sets.specs.Blossoms.{odd_set_of, IsVertexOrBlossom}
use Rattle.odd_sets.specs.BlossomSlacks.{blossom_slacks}
use Rattle.odd_sets.specs.Values.{PartValue, MatchValue, BranchValue}
use Rattle.odd_sets.specs.declared.odd_set.Handle.{Handle}
use Rattle.odd_sets.specs.declared.odd_set.BlossomPart.{BlossomPart}
use Rattle.odd_sets.specs.declared.odd_set.Slot.{Slot}
use Rattle.odd_sets.specs.declared.matches.Match.{Match}
use Rattle.odd_sets.specs.declared.branches.Branch.{Branch}

-- A slab of odd sets, by key.
abbrev pub Slots : Type 0
Slots = Slab Slot

-- The members in a slot; none where there is no slot.
abbrev pub slot_members : Option Slot → List ℕ
slot_members None = []
slot_members (Some s) = s.members.items

-- The slack row in a slot; none where there is no slot.
abbrev pub slot_slacks : Option Slot → List ℕ
slot_slacks None = []
slot_slacks (Some s) = s.near.items

-- The parts in a slot; none where there is no slot.
abbrev pub slot_parts : Option Slot → List BlossomPart
slot_parts None = []
slot_parts (Some s) = s.parts.items

-- The members of the set under a key.
abbrev pub members_at : Slots → ℕ → List ℕ
members_at sets key = slot_members (get sets key)

-- The slack row of the set under a key.
abbrev pub slacks_at : Slots → ℕ → List ℕ
slacks_at sets key = slot_slacks (get sets key)

-- The parts of the set under a key.
abbrev pub parts_at : Slots → ℕ → List BlossomPart
parts_at sets key = slot_parts (get sets key)

-- The value of a part, with the given sets inside.
abbrev pub part_with_inside : Slots → BlossomPart → List PartValue → PartValue
part_with_inside sets p inside = record {
  odd_set = odd_set_of p.handle.key (members_at sets p.handle.key) p.handle.dual
      (slacks_at sets p.handle.key)
      inside;
  next = p.next;
}

-- The value of a part, with n levels of sets inside.
abbrev pub part_to_depth : ℕ → Slots → BlossomPart → PartValue
part_to_depth zero sets p = part_with_inside sets p []
part_to_depth (suc n) sets p = part_with_inside sets p
    (map (part_to_depth n sets) (parts_at sets p.handle.key))

-- The odd set of a handle. A part has fewer members than its blossom, so the levels are at most as
-- many as the members.
abbrev pub set_in : Slots → Handle → OddSetValue
set_in sets s = odd_set_of s.key (members_at sets s.key) s.dual (slacks_at sets s.key)
    (map (part_to_depth (length (members_at sets s.key)) sets) (parts_at sets s.key))

-- The value of a part.
abbrev pub part_in : Slots → BlossomPart → PartValue
part_in sets p = record { odd_set = set_in sets p.handle; next = p.next }

-- The value of a match.
abbrev pub match_in : Slots → Match → MatchValue
match_in sets c = record {
  first = set_in sets c.first;
  second = set_in sets c.second;
  link = c.link;
}

-- The value of a branch.
abbrev pub branch_in : Slots → Branch → BranchValue
branch_in sets b = record {
  up = b.up;
  inner = set_in sets b.inner;
  pair = b.pair;
  outer = set_in sets b.outer;
}

-- The odd set of a handle, if there is one.
abbrev pub core_in : Slots → Option Handle → Option OddSetValue
core_in sets None = None
core_in sets (Some s) = Some (set_in sets s)

-- The values of all parts.
abbrev pub parts_in : Slots → List BlossomPart → List PartValue
parts_in sets ps = map (part_in sets) ps

-- The values of all matches.
abbrev pub matches_in : Slots → List Match → List MatchValue
matches_in sets cs = map (match_in sets) cs

-- The values of all branches.
abbrev pub branches_in : Slots → List Branch → List BranchValue
branches_in sets bs = map (branch_in sets) bs

-- The slack row of a blossom has the least slacks of its parts, less their duals.
abbrev pub AreSlacksOf : List ℕ → List PartValue → Type 0
AreSlacksOf near [] = Unit {0}
AreSlacksOf near (p ∷ ps) = near ≡ blossom_slacks (p ∷ ps)

-- The slot under a key has one vertex, or a blossom with its slack row; likewise the slots of its
-- parts, n levels down.
abbrev pub IsSetToDepth : ℕ → Slots → ℕ → Type 0
IsSetToDepth zero sets key = ⊥
IsSetToDepth (suc n) sets key = ContainsKey sets key
    × IsVertexOrBlossom (members_at sets key) (parts_in sets (parts_at sets key))
    × Each (λ (p : BlossomPart). IsSetToDepth n sets p.handle.key) (parts_at sets key)
    × AreSlacksOf (slacks_at sets key) (parts_in sets (parts_at sets key))

-- The slot under a key has an odd set, on all levels.
pub record IsSet (sets : Slots) (key : ℕ) : Type 0 where
  pub to : (n : ℕ) → length (members_at sets key) ≤ n → IsSetToDepth n sets key

-- All sets of a list are in slots, no two of them under one key.
pub record AreSets (sets : Slots) (bands : List DualSet) : Type 0 where
  pub each : (k : ℕ) → 1 ≤ key_count k bands → IsSet sets k
  pub once : (k : ℕ) → key_count k bands ≤ 1

-- Every other key keeps its slot.
abbrev pub KeepsOtherSlots : Slots → Slots → ℕ → Type 0
KeepsOtherSlots old new key = (k : ℕ) → k ≢ key → get new k ≡ get old k

-- A set is inserted under a key that wasn't in use.
pub record InsertsSet (old new : Slots) (key : ℕ) : Type 0 where
  pub fresh : get old key ≡ None
  pub others : KeepsOtherSlots old new key
  pub set : IsSet new key
