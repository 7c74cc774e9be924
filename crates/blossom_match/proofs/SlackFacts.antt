-- Slacks from outer vertices, masks, and candidates for the next change: what each requires.
use Rattle.std.proofs.Common.{◌≡◌, ℕ, ◌-◌, ◌*◌, ◌/◌, ◌<◌, ◌≤◌, ◌⊎◌, List, [], ◌∷◌, length, refl, arith, subst}
use Rattle.std.specs.Prelude.{slice_index}
use Rattle.blossom_match.proofs.Names.{AddsOuterSlacks, AreOuterSlacks, AreSearchSlacks, CanStepAt, CarriesSlacks, ComputesRootSlacks, Grow, HasSlackCells, HasSlacks, HasSoundOuters, IsBestShown, IsCandidate, IsCandidateAmong, IsMask, IsMaskedSlack, IsOuterSlack, IsSearchMask, IsSlackFromOne, IsSoundBranch, IsSoundSet, LowersBySet, OddSetValue, ReachesEither, SearchValue, TableValue, Target, branch_members, count, count_holding_both, entry, masked_slack}
use Rattle.blossom_match.specs.declared.least.Kind.TheVariants as kind
use Rattle.blossom_match.proofs.SearchFacts.{branch, link, place, search}

-- heights of seven vertices
abbrev hs : List ℕ
hs = 1 ∷ 3 ∷ 1 ∷ 2 ∷ 2 ∷ 4 ∷ 5 ∷ []

-- merged with the slacks from 1 and 2, each cell but theirs is the least
pub known_lowered : (t : TableValue) (old new : List ℕ) → LowersBySet t hs (1 ∷ 2 ∷ []) old new → 6 < t.places
    → (length new ≡ length old) × (slice_index new 1 ≡ slice_index old 1) × (slice_index new 5 ≤ slice_index old 5)
    × (slice_index new 5 ≤ 2 * entry t 1 5 - 3)
    × ((slice_index new 5 ≡ slice_index old 5) ⊎ IsSlackFromOne t hs (1 ∷ 2 ∷ []) 5 (slice_index new 5))
known_lowered t old new lowers six = (
  lowers.size,
  lowers.kept 1 (omega (arith, six)) (omega arith),
  lowers.less 5 (omega (arith, six)),
  lowers.least 1 5 (omega arith) (omega (arith, six)) refl,
  lowers.is 5 (omega (arith, six)) refl,
)

pub known_slack_from : (t : TableValue) (left : ℕ) (is : IsSlackFromOne t hs (1 ∷ 2 ∷ []) 5 left)
    → (1 ≤ count is.a (1 ∷ 2 ∷ [])) × (left ≡ 2 * entry t is.a 5 - slice_index hs is.a)
known_slack_from t left is = (is.here, is.exact)

-- outer vertices 2 and 0: a cell has the least slack from them, of one or FAR, and of these two either has that to the other
pub known_outer : (t : TableValue) (reach : List ℕ) → AreOuterSlacks t hs (place 0 1) (branch ∷ []) reach → 6 < t.places
    → (length reach ≡ t.places) × (slice_index reach 5 ≤ 400001) × (slice_index reach 5 ≤ 2 * entry t 2 5 - 1)
    × ReachesEither t hs reach 0 2
    × ((slice_index reach 5 ≡ 400001) ⊎ IsOuterSlack t hs (place 0 1) (branch ∷ []) 5 (slice_index reach 5))
known_outer t reach are six = (
  are.size,
  are.short 5 (omega (arith, six)),
  are.least 2 5 (omega arith) (omega (arith, six)) refl,
  are.both 0 2 (omega arith) (omega arith) (omega (arith, six)) (omega (arith, six)) refl,
  are.is 5 (omega (arith, six)),
)

pub known_outer_slack : (t : TableValue) (left : ℕ) (is : IsOuterSlack t hs (place 0 1) (branch ∷ []) 5 left)
    → (1 ≤ count is.a (2 ∷ 0 ∷ [])) × (left ≡ 2 * entry t is.a 5 - slice_index hs is.a)
known_outer_slack t left is = (is.here, is.exact)

pub known_own_slack : (t : TableValue) (left : ℕ) (is : IsOuterSlack t hs (place 0 1) (branch ∷ []) 2 left) → is.a ≡ 2 → ⊥
known_own_slack t left is two = other (subst (λ (a : ℕ). count_holding_both a 2 (place 0 1) (branch ∷ []) ≡ 0) two is.apart)
  where
    other : ◌≡◌ {A = ℕ} 1 0 → ⊥
    other same = omega (arith, same)

-- sound outer sets of different vertices, and an array with a cell for each vertex of their table
pub known_sound_twice : (t : TableValue) → HasSoundOuters t hs (place 2 1) (branch ∷ []) → ⊥
known_sound_twice t has = twice (has.once 2)
  where
    twice : 2 ≤ 1 → ⊥
    twice less = omega (arith, less)

pub known_cells : (cells : List ℕ) (has : HasSlackCells search cells) → (length cells ≡ has.t.places)
    × IsSoundSet has.t (λ x. slice_index hs x) (place 0 1) × IsSoundBranch has.t (λ x. slice_index hs x) branch
known_cells cells has = (has.size, has.can.sound, has.can.firm.0)

pub known_has_slacks : (s : OddSetValue) → HasSlacks 7 s → length s.near ≡ 7
known_has_slacks s has = has

-- from the root alone, with further branches, and from one search to the next
pub known_root : (t : TableValue) (new : List ℕ) → ComputesRootSlacks (place 0 1) new → HasSoundOuters t hs (place 0 1) []
    → length new ≡ t.places → AreOuterSlacks t hs (place 0 1) [] new
known_root t new computes has sized = computes t hs has sized

pub known_added : (t : TableValue) (old new : List ℕ) → AddsOuterSlacks (branch ∷ []) old new
    → ((x : ℕ) → count x (2 ∷ 0 ∷ []) ≤ 1) → IsSoundBranch t (λ x. slice_index hs x) branch
    → AreOuterSlacks t hs (place 0 1) [] old → AreOuterSlacks t hs (place 0 1) (branch ∷ []) new
known_added t old new adds once sound are = adds t hs (place 0 1) [] once (sound, tt) are

pub known_carried : (t : TableValue) (r : SearchValue) (old new : List ℕ) → CarriesSlacks (Grow (link 0 3)) search r old new
    → CanStepAt t search (Grow (link 0 3)) → AreSearchSlacks t search old → AreSearchSlacks t r new
known_carried t r old new carries can are = carries t can are

-- the vertices of a branch; a mask shows the given vertices, and no others
pub known_members : branch_members branch ≡ 1 ∷ 2 ∷ []
known_members = refl

pub known_mask : (mask : List ℕ) → IsMask (3 ∷ 4 ∷ []) mask → (4 < length mask) × (slice_index mask 4 ≡ 0)
    × (5 < length mask → slice_index mask 5 ≡ 400001)
known_mask mask is = (is.within 4 (omega arith), is.on 4 (omega arith), λ below. is.off 5 below refl)

pub known_search_mask : (t : TableValue) (mask : List ℕ) → IsSearchMask t search mask → (length mask ≡ t.places) × (slice_index mask 4 ≡ 0)
known_search_mask t mask is = (is.size, is.masks.on 4 (omega arith))

pub known_masked : (slack : ℕ) (is : IsMaskedSlack hs (9 ∷ 9 ∷ 9 ∷ 9 ∷ []) (0 ∷ 0 ∷ 0 ∷ 0 ∷ []) slack)
    → (is.place < 4) × (is.place ≡ 3 → slack ≡ 7)
known_masked slack is = (
  is.within,
  λ three. subst (λ (x : ℕ). slack ≡ masked_slack hs (9 ∷ 9 ∷ 9 ∷ 9 ∷ []) (0 ∷ 0 ∷ 0 ∷ 0 ∷ []) x) three is.exact,
)

-- the best of the shown vertices, or the candidate before
pub known_best : (reach mask : List ℕ) (old new : Target) → IsBestShown hs reach mask old new → IsMask (3 ∷ 4 ∷ []) mask
    → (new.by ≤ old.by) × (slice_index reach 4 < 400001 → new.by ≤ slice_index reach 4 - 2)
    × ((new ≡ old) ⊎ IsCandidateAmong hs reach kind.Grow (3 ∷ 4 ∷ []) new)
known_best reach mask old new is masks = let best = is (3 ∷ 4 ∷ []) masks in
    (best.less, λ near. best.wide 4 (omega arith) near, best.is)

pub known_among : (reach : List ℕ) (aim : Target) → IsCandidateAmong hs reach kind.Shrink (2 ∷ 0 ∷ []) aim
    → (aim.kind ≡ kind.Shrink) × (1 ≤ count aim.to (2 ∷ 0 ∷ [])) × (slice_index reach aim.to < 400001)
    × (aim.by ≡ (slice_index reach aim.to - slice_index hs aim.to) / 2)
known_among reach aim is = (is.kind, is.there, is.near, is.by)

-- a candidate leads to a free vertex, a match or an outer vertex, and uses up its slack
pub known_candidate : (reach : List ℕ) (to by : ℕ)
    → (IsCandidate search hs reach (record { kind = kind.Augment; to = to; by = by }) → (1 ≤ count to (5 ∷ 6 ∷ []))
    × (slice_index reach to < 400001) × (by ≡ slice_index reach to - slice_index hs to))
    × (IsCandidate search hs reach (record { kind = kind.Grow; to = to; by = by }) → 1 ≤ count to (3 ∷ 4 ∷ []))
    × (IsCandidate search hs reach (record { kind = kind.Shrink; to = to; by = by }) → (1 ≤ count to (2 ∷ 0 ∷ []))
    × (by ≡ (slice_index reach to - slice_index hs to) / 2))
known_candidate reach to by = (λ is. (is.there, is.near, is.by), λ is. is.there, λ is. (is.there, is.by))
