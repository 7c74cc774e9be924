-- Shrinking: when a chain closes a blossom, what its steps keep, and what the search is afterwards.
use Rattle.std.proofs.Common.{◌≡◌, ℕ, ◌+◌, ◌*◌, ◌<◌, ◌≤◌, List, [], ◌∷◌, length, sym, refl, arith}
use Rattle.odd_sets.proofs.Names.{BranchValue, CanClose, CanShrink, Each, IsSoundBranch, IsSoundSet, OddSetValue, PartValue, TightEdge, blossom_set, branch_of, closed_blossom, count, odd_set_of, entry, members_in, part_with_edge}
use Rattle.odd_sets.specs.BlossomSlacks.{SlacksAgree}
use Rattle.odd_sets.proofs.SumLemmas.{count-append}
use Rattle.odd_sets.proofs.SetFacts.{link, part, place, tree}

other : ◌≡◌ {A = ℕ} 0 1 → ⊥
other is = omega (arith, is)

none_there : 1 ≤ 0 → ⊥
none_there is = omega (arith, is)

-- a part, a branch and a blossom from their fields
pub known_fields : (part_with_edge (place 3 6) (link 3 4) ≡ part (place 3 6) 3 4)
    × (branch_of (link 4 5) (place 5 1) (link 5 6) (place 6 1)
    ≡ record { up = link 4 5; inner = place 5 1; pair = link 5 6; outer = place 6 1 })
    × (closed_blossom 9 (place 1 4) (link 1 2) (part (place 2 5) 2 3 ∷ [])
    ≡ blossom_set 9 (part (place 1 4) 1 2 ∷ part (place 2 5) 2 3 ∷ []))
known_fields = (refl, refl, refl)

-- slacks of parts agree in their number of cells, and each member has a cell
pub known_slacks : (p q : PartValue) → length p.odd_set.near ≡ 8 → SlacksAgree (p ∷ q ∷ [])
    → (length q.odd_set.near ≡ 8) × (1 ≤ count 8 p.odd_set.members → count 8 p.odd_set.members ≡ 0)
known_slacks p q eight agree = (
  omega (arith, agree.rows.1.0, eight),
  λ there. let below : 8 < length p.odd_set.near = agree.within 8 (more p q there) in omega (arith, below, eight),
)
  where
    more : (p q : PartValue) → 1 ≤ count 8 p.odd_set.members → 1 ≤ count 8 (members_in (p ∷ q ∷ []))
    more p q there = omega (arith, there, count-append 8 p.odd_set.members (members_in (q ∷ [])))

pub known_no_parts : SlacksAgree [] → ⊥
known_no_parts agree = agree

-- a chain from the place 1 back to it: two parts, each edge from its part to the next
abbrev chain : List PartValue
chain = part (place 2 5) 2 3 ∷ part (place 3 6) 3 1 ∷ []

-- a blossom begins with dual 0, and holds what its parts hold
pub known_begun : ((blossom_set 9 chain).key ≡ 9) × ((blossom_set 9 chain).members ≡ 2 ∷ 3 ∷ []) × ((blossom_set 9 chain).dual ≡ 0)
known_begun = (refl, refl, refl)

pub known_chain_ends : (way : TightEdge) (to : ℕ) → CanClose (place 1 4) way chain to
    → (count way.to (2 ∷ []) ≡ 1) × (to ≡ 1) × (count way.from (1 ∷ []) ≡ 1)
known_chain_ends way to can = (can.leads.0, sym can.leads.2.2, can.from)

pub known_chain_away : CanClose (place 1 4) (link 1 2) (part (place 2 5) 2 3 ∷ part (place 3 6) 3 7 ∷ []) 7 → ⊥
known_chain_away can = other can.back

pub known_chain_even : (to : ℕ) → CanClose (place 1 4) (link 1 2) (part (place 2 5) 2 1 ∷ []) to → ⊥
known_chain_even to can = odd can.even
  where
    odd : ◌≡◌ {A = ℕ} 1 0 → ⊥
    odd is = omega (arith, is)

pub known_chain_empty : CanClose (place 1 4) (link 1 1) [] 1 → ⊥
known_chain_empty can = none_there can.some

pub known_chain_kept : (to : ℕ)
    → CanClose (place 1 4) (link 1 2) (part (place 2 5) 2 3 ∷ part (odd_set_of 3 (3 ∷ 4 ∷ []) 0 [] []) 3 1 ∷ []) to
    → ⊥
known_chain_kept to can = other can.kept.1.0.odd

pub known_chain_rows : (top : OddSetValue) (to : ℕ) → CanClose top (link 1 2) chain to → length top.near ≡ 1
known_chain_rows top to can = omega (arith, can.rows.rows.1.0)

-- an edge that a search can shrink by leads between two outer sets, not within one
pub known_can_shrink : (way : TightEdge) → CanShrink way (place 0 1) tree
    → (1 ≤ count way.from (4 ∷ 6 ∷ 0 ∷ [])) × (1 ≤ count way.to (4 ∷ 6 ∷ 0 ∷ []))
known_can_shrink way can = (can.from, can.to)

pub known_within : CanShrink (link 4 4) (place 0 1) tree → ⊥
known_within can = odd can.apart
  where
    odd : ◌≡◌ {A = ℕ} 1 0 → ⊥
    odd is = omega (arith, is)

pub known_shrink_tree : (way : TightEdge) → CanShrink way (place 8 1) tree → ⊥
known_shrink_tree way can = none_there can.grown.0

pub known_shrink_once : (way : TightEdge) (b : BranchValue) → CanShrink way (place 0 1) (b ∷ []) → count 0 b.inner.members ≡ 0
known_shrink_once way b can = omega (arith, can.once 0, count-append 0 b.outer.members (0 ∷ []), count-append 0 b.inner.members [])

pub known_shrink_table : (way : TightEdge) (can : CanShrink way (place 0 1) tree) → (6 < can.t.places)
    × (2 * entry can.t way.from way.to ≡ can.h way.from + can.h way.to) × (entry can.t 4 6 ≡ entry can.t 6 4)
    × IsSoundSet can.t can.h (place 0 1) × Each (IsSoundBranch can.t can.h) tree
known_shrink_table way can = (can.within 6 (omega arith), can.tight, can.symmetric 4 6, can.sound, can.firm)
