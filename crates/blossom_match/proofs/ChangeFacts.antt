-- Changes of duals: what the least one is, what it makes of a search, and which step it leads to.
use Rattle.std.proofs.Common.{◌≡◌, ℕ, ◌+◌, ◌*◌, ◌<◌, ◌≤◌, ◌⊎◌, List, [], ◌∷◌, drop, length, inl, inr, refl, arith, subst, ⊎_elim}
use Rattle.std.specs.Prelude.{slice_index}
use Rattle.blossom_match.proofs.Names.{Adjusts, Augment, Branch, BranchValue, CanAdjust, CanChange, CanChangeBranch, CanChangeHeights, ChangesDuals, DualChange, Expand, Grow, IsLeastChange, IsLesserChange, IsLesserChangeAt, IsMetric, IsReadyAfter, IsSearch, IsStepReady, OddSetValue, SearchStep, SearchValue, Shrink, TableValue, TightEdge, all_changed, changed_branch, count, entry, search_size, step_of, stored_height}
use Rattle.blossom_match.specs.LeastChanges.{CanSearch, FirstHasDual, IsBlossomDual, IsBranchDual}
use Rattle.blossom_match.specs.declared.least.Kind.TheVariants as kind
use Rattle.blossom_match.proofs.SearchFacts.{branch, link, pair, place, search}

abbrev change : ℕ → SearchStep → DualChange
change by step = record { by = by; step = step }

-- outer duals rise and inner ones fall, of sets and of handles
pub known_changed : all_changed 2 (branch ∷ [])
    ≡ record { up = link 0 1; inner = place 1 1; pair = link 1 2; outer = place 2 3 } ∷ []
known_changed = refl

pub known_changed_branch : changed_branch 2
    (record { up = link 0 1; inner = record { key = 8; dual = 3 }; pair = link 1 2; outer = record { key = 9; dual = 1 } })
    ≡ record { up = link 0 1; inner = record { key = 8; dual = 1 }; pair = link 1 2; outer = record { key = 9; dual = 3 } }
known_changed_branch = refl

-- no inner dual falls below 0, and no outer one rises to 2 ^ 32
pub known_can_change : (by : ℕ) → CanChange by branch → (by ≤ 3) × (1 + by < 4294967296)
known_can_change by can = (can.wide, can.fits)

pub known_can_change_branch : (by : ℕ) (b : Branch) → CanChangeBranch by b → (by ≤ b.inner.dual) × (b.outer.dual + by < 4294967296)
known_can_change_branch by b can = (can.wide, can.fits)

pub known_can_heights : (heights : List ℕ) → CanChangeHeights 4 (place 0 1) (branch ∷ []) heights
    → (2 < length heights) × (1 < length heights) × (slice_index heights 2 + 4 < 4294967296) × (4 ≤ slice_index heights 1)
known_can_heights heights can = (can.cells 2 (omega arith), can.cells 1 (omega arith), can.rise 2, can.fall 1)

-- a search with other duals: its root's and its branches', and the heights of outer and of inner vertices
pub known_duals : (r : SearchValue) → ChangesDuals 2 search r → (slice_index r.heights 0 ≡ 3) × (slice_index r.heights 1 ≡ 1)
    × (slice_index r.heights 3 ≡ 2) × (length r.heights ≡ 7) × (r.root ≡ place 0 3)
    × (r.tree ≡ record { up = link 0 1; inner = place 1 1; pair = link 1 2; outer = place 2 3 } ∷ []) × (r.rest ≡ pair ∷ [])
    × (r.free ≡ 5 ∷ 6 ∷ [])
known_duals r does = (
  omega (arith, does.heights 0),
  omega (arith, does.heights 1),
  omega (arith, does.heights 3),
  does.size,
  does.root,
  does.tree,
  does.rest,
  does.free,
)

-- after a least change no slack is negative: of an outer vertex and a matched or free one, or two outer ones of different sets
pub known_least : (t : TableValue) (h : ℕ → ℕ) (c : DualChange) → IsLeastChange t h search c
    → (h 2 + h 4 + c.by ≤ 2 * entry t 2 4) × (h 0 + h 6 + c.by ≤ 2 * entry t 0 6) × (h 0 + h 2 + 2 * c.by ≤ 2 * entry t 0 2)
    × IsReadyAfter t h search c.by c.step
known_least t h c is =
    (is.one 2 4 (omega arith) (omega arith), is.one 0 6 (omega arith) (omega arith), is.two 0 2 (omega arith) (omega arith) refl, is.due)

-- nor the dual of an inner blossom
abbrev blossom : ℕ → OddSetValue
blossom dual = record (place 1 dual) { below = record { key = 7; members = 1 ∷ []; dual = 4 } ∷ [] }

abbrev inner : ℕ → BranchValue
inner dual = record branch { inner = blossom dual }

pub known_least_blossom : (t : TableValue) (h : ℕ → ℕ) (step : SearchStep)
    → IsLeastChange t h (record search { tree = inner 3 ∷ [] }) (change 4 step) → ⊥
known_least_blossom t h step is = more (is.blossoms.0 (omega arith))
  where
    more : 4 ≤ 3 → ⊥
    more less = omega (arith, less)

-- and a step can be made: an edge from an outer vertex becomes tight, or an inner blossom has dual 0
pub known_ready_after : (t : TableValue) (h : ℕ → ℕ) (way : TightEdge)
    → (IsReadyAfter t h search 8 (Augment way) → (1 ≤ count way.from (2 ∷ 0 ∷ [])) × (1 ≤ count way.to (5 ∷ 6 ∷ []))
    × (h way.from + h way.to + 8 ≡ 2 * entry t way.from way.to))
    × (IsReadyAfter t h search 8 (Grow way) → (1 ≤ count way.from (2 ∷ 0 ∷ [])) × (1 ≤ count way.to (3 ∷ 4 ∷ []))
    × (h way.from + h way.to + 8 ≡ 2 * entry t way.from way.to))
    × (IsReadyAfter t h search 8 (Shrink way) → (1 ≤ count way.from (2 ∷ 0 ∷ [])) × (1 ≤ count way.to (2 ∷ 0 ∷ []))
    × (h way.from + h way.to + 16 ≡ 2 * entry t way.from way.to))
known_ready_after t h way = (λ is. (is.0, is.1, is.2), λ is. (is.0, is.1, is.2), λ is. (is.0, is.1, is.3))

pub known_not_after : (t : TableValue) (h : ℕ → ℕ) → (IsReadyAfter t h search 8 (Shrink (link 2 2)) → ⊥)
    × (IsReadyAfter t h search 3 (Expand 0) → ⊥) × (IsReadyAfter t h search 3 (Expand 1) → ⊥)
    × (IsReadyAfter t h (record search { tree = inner 4 ∷ [] }) 3 (Expand 0) → ⊥)
known_not_after t h = (λ is. other is.2, λ is. none is.1, λ is. is, λ is. three is.0)
  where
    other : ◌≡◌ {A = ℕ} 1 0 → ⊥
    other is = omega (arith, is)

    none : 0 < 0 → ⊥
    none less = omega (arith, less)

    three : ◌≡◌ {A = ℕ} 4 3 → ⊥
    three is = omega (arith, is)

pub known_step_of : (step_of kind.Augment (link 0 5) ≡ Augment (link 0 5)) × (step_of kind.Grow (link 0 5) ≡ Grow (link 0 5))
    × (step_of kind.Shrink (link 0 5) ≡ Shrink (link 0 5))
known_step_of = (refl, refl, refl)

-- the lesser of a change of 9 and the dual 4 of an inner blossom
pub known_lesser : (new : DualChange) → IsLesserChange (inner 4 ∷ []) (change 9 (Expand 7)) new
    → (new.by ≤ 9) × (new.by ≤ 4) × ((new ≡ change 9 (Expand 7)) ⊎ IsBlossomDual (inner 4 ∷ []) new)
known_lesser new is = (is.less, is.wide.0 (omega arith), is.is)

pub known_blossom_dual : (c : DualChange) (is : IsBlossomDual (branch ∷ inner 4 ∷ []) c) → is.at ≡ 1 → (c.step ≡ Expand is.at) × (4 ≡ c.by)
known_blossom_dual c is one = (is.step, (subst (λ (at : ℕ). FirstHasDual c.by (drop at (branch ∷ inner 4 ∷ []))) one is.due).0)

pub known_lesser_at : (new : DualChange) → IsLesserChangeAt (inner 4) 2 (change 9 (Expand 7)) new
    → (new.by ≤ 9) × (new.by ≤ 4) × ((new ≡ change 9 (Expand 7)) ⊎ ((new.step ≡ Expand 2) × (4 ≡ new.by)))
known_lesser_at new is =
    (is.less, is.wide (omega arith), ⊎_elim (λ old. inl old) (λ dual. inr (dual.step, dual.wide)) is.is)

pub known_vertex_dual : (c : DualChange) → IsBranchDual branch 2 c → ⊥
known_vertex_dual c is = none is.some
  where
    none : 0 < 0 → ⊥
    none less = omega (arith, less)

-- a search that isn't over has a free vertex, and a height for each vertex
pub known_can_search : (t : TableValue) → CanSearch t search → IsSearch t (stored_height search) search × (7 ≡ t.places)
known_can_search t can = (can.search, can.size)

pub known_over : (t : TableValue) → CanSearch t (record search { free = [] }) → ⊥
known_over t can = none can.some
  where
    none : 1 ≤ 0 → ⊥
    none less = omega (arith, less)

-- a least change over some metric, and that its step can be made afterwards
pub known_can_adjust : (c : DualChange) (can : CanAdjust search c) → IsMetric can.t × CanSearch can.t search
    × IsLeastChange can.t (stored_height search) search c
known_can_adjust c can = (can.metric, can.can, can.bounds)

pub known_adjusted : (t : TableValue) (c : DualChange) (r : SearchValue) → Adjusts search c r
    → (search_size r ≡ 3) × (r.free ≡ 5 ∷ 6 ∷ []) × (IsMetric t → CanSearch t search → IsLeastChange t (stored_height search) search c
    → IsSearch t (stored_height r) r × IsStepReady t (stored_height r) r c.step × (length r.heights ≡ t.places))
known_adjusted t c r does = (
  does.size,
  does.free,
  λ metric can least. let after = does.search t metric can least in (after.search, after.ready, after.size),
)
