-- Edges that a candidate leads along, initial duals and their pairs: what each requires.
use Rattle.std.proofs.Common.{◌≡◌, ◌≢◌, ℕ, ◌+◌, ◌-◌, ◌*◌, ◌<◌, ◌≤◌, List, [], ◌∷◌, Some, None, length, refl, arith, subst}
use Rattle.std.specs.Prelude.{slice_index}
use Rattle.blossom_match.proofs.Names.{AreOuterSlacks, AreWithinDistances, CanFindEdge, CanPair, DualChange, FindsSlackInSet, Grow, HasFreeSlack, IsCandidateChange, IsPartialMatching, PairsFree, PartialMatchingValue, TableValue, Target, count, count_holding_both, entry}
use Rattle.blossom_match.specs.Candidates.{FindsSlackIn}
use Rattle.blossom_match.specs.declared.least.Kind.TheVariants as kind
use Rattle.blossom_match.proofs.SearchFacts.{branch, link, pair, place}

abbrev hs : List ℕ
hs = 1 ∷ 3 ∷ 1 ∷ 2 ∷ 2 ∷ 4 ∷ 5 ∷ []

-- an edge is found where cells are slacks of different outer vertices, and the candidate's cell isn't FAR
pub known_can_find : (t : TableValue) (reach : List ℕ) (aim : Target) → CanFindEdge t hs (place 0 1) (branch ∷ []) reach aim
    → (7 ≡ t.places) × (2 < t.places) × AreOuterSlacks t hs (place 0 1) (branch ∷ []) reach × (aim.to < t.places)
    × (slice_index reach aim.to < 400001)
known_can_find t reach aim can = (can.can.cells, can.can.within 2 (omega arith), can.reaches, can.within, can.near)

pub known_find_twice : (t : TableValue) (reach : List ℕ) (aim : Target) → CanFindEdge t hs (place 2 1) (branch ∷ []) reach aim → ⊥
known_find_twice t reach aim can = twice (can.can.once 2)
  where
    twice : 2 ≤ 1 → ⊥
    twice less = omega (arith, less)

-- the change of a candidate to 5 by 6 grows along the edge from the outer vertex with its slack
pub known_change : (t : TableValue) (reach : List ℕ) (c : DualChange)
    (is : IsCandidateChange t hs (place 0 1) (branch ∷ []) reach (record { kind = kind.Grow; to = 5; by = 6 }) c)
    → (1 ≤ count is.from (2 ∷ 0 ∷ [])) × (slice_index reach 5 ≡ 2 * entry t is.from 5 - slice_index hs is.from) × (c.by ≡ 6)
    × (c.step ≡ Grow (link is.from 5))
known_change t reach c is = (is.here, is.exact, is.by, is.step)

pub known_change_within : (t : TableValue) (reach : List ℕ) (c : DualChange)
    (is : IsCandidateChange t hs (place 0 1) (branch ∷ []) reach (record { kind = kind.Shrink; to = 2; by = 6 }) c) → is.from ≡ 2 → ⊥
known_change_within t reach c is two = other (subst (λ (a : ℕ). count_holding_both a 2 (place 0 1) (branch ∷ []) ≡ 0) two is.apart)
  where
    other : ◌≡◌ {A = ℕ} 1 0 → ⊥
    other same = omega (arith, same)

-- a vertex with a slack is found where there is one, and only one that has it
pub known_found : (t : TableValue) (left a : ℕ) → FindsSlackIn t hs (1 ∷ 2 ∷ []) 5 left (Some a)
    → (1 ≤ count a (1 ∷ 2 ∷ [])) × (left ≡ 2 * entry t a 5 - slice_index hs a)
known_found t left a is = (is.here, is.exact)

pub known_missed : (t : TableValue) → FindsSlackIn t hs (1 ∷ 2 ∷ []) 5 (2 * entry t 2 5 - 1) None → ⊥
known_missed t none = none (record { a = 2; here = omega arith; exact = refl })

pub known_found_in_set : (t : TableValue) (left a : ℕ) → (FindsSlackInSet t hs (place 2 1) 5 left (Some a)
    → (1 ≤ count a (2 ∷ [])) × (left ≡ 2 * entry t a 5 - slice_index hs a)) × (FindsSlackInSet t hs (place 2 1) 2 left (Some a) → ⊥)
known_found_in_set t left a = (λ is. (is.1.here, is.1.exact), λ is. other is.0)
  where
    other : ◌≡◌ {A = ℕ} 1 0 → ⊥
    other same = omega (arith, same)

pub known_missed_in_set : (t : TableValue) → FindsSlackInSet t hs (place 2 1) 5 (2 * entry t 2 5 - 1) None → ⊥
known_missed_in_set t none = none refl (record { a = 2; here = omega arith; exact = refl })

-- initial duals within the distances, with a slack of 0 or more between free vertices
pub known_within : (t : TableValue) → AreWithinDistances t (3 ∷ 4 ∷ 5 ∷ []) → 2 < t.places → (4 ≤ entry t 1 2) × (5 ≤ entry t 2 1)
known_within t are two = (
  are 1 2 (omega (arith, two)) two (λ same. omega (arith, same)),
  are 2 1 two (omega (arith, two)) (λ same. omega (arith, same)),
)

pub known_free_slack : (t : TableValue) → HasFreeSlack t hs (5 ∷ 6 ∷ []) 3 → (3 < t.places) × (6 < t.places) × (2 + 5 ≤ 2 * entry t 3 6)
known_free_slack t has = let six : 6 < t.places = has.others 6 (omega arith) in
    (has.within, six, has.slack 6 six (λ same. omega (arith, same)))

-- two free vertices are paired along a tight edge, and two free ones fewer are left
abbrev state : List ℕ → PartialMatchingValue
state free = record { matches = pair ∷ []; free = free; heights = hs }

pub known_can_pair : (t : TableValue) (other : ℕ) → CanPair t 5 other (state (5 ∷ 6 ∷ []))
    → IsPartialMatching t (λ x. slice_index hs x) (pair ∷ []) (5 ∷ 6 ∷ []) × (7 ≡ t.places) × (1 ≤ count other (5 ∷ 6 ∷ []))
    × (5 ≢ other) × (4 + slice_index hs other ≡ 2 * entry t 5 other)
known_can_pair t other can = (can.stands.standing, can.stands.size, can.found.here, can.found.pair.differ, can.found.pair.tight)

pub known_pair_bound : (t : TableValue) (other : ℕ) → CanPair t 3 other (state (5 ∷ 6 ∷ [])) → ⊥
known_pair_bound t other can = none can.here
  where
    none : 1 ≤ 0 → ⊥
    none less = omega (arith, less)

pub known_paired : (t : TableValue) (r : PartialMatchingValue) → PairsFree t (state (5 ∷ 6 ∷ [])) r
    → IsPartialMatching t (λ x. slice_index r.heights x) r.matches r.free × (length r.heights ≡ t.places) × (length r.free + 2 ≡ 2)
known_paired t r does = (does.stands.standing, does.stands.size, does.fewer)
