-- Matches, branches and openings of sets: what each relation requires of places and their duals.
use Rattle.std.proofs.Common.{◌≡◌, ℕ, ◌+◌, ◌*◌, ◌<◌, ◌≤◌, List, [], ◌∷◌, ◌++◌, None, Some, ◌%◌, length, take, drop, refl, arith, subst}
use Rattle.odd_sets.proofs.Names.{AreTightInside, DualSet, IsAdditive, IsTightMatch, MatchHolds, MatchValue, OddSetValue, Match, PartHoldsAt, PartValue, RemovesMatch, Slots, TableValue, TightEdge, count, dual_sets, entry, height, match_dual_sets, match_members, matches_along, matches_in, set_in}
use Rattle.odd_sets.specs.Blossoms.{IsRotated}
use Rattle.odd_sets.specs.DualSets.{with_dual}
use Rattle.odd_sets.specs.Heights.{CanFall, CanRise, Falls, HasCells, HeightsAre, Rises}
use Rattle.odd_sets.specs.Lists.{EachPair}
use Rattle.odd_sets.specs.Opens.{OpensAt}
use Rattle.odd_sets.specs.Tables.{EntriesAre}
use Rattle.odd_sets.specs.Trees.{branch_by_edge}
use Rattle.std.specs.Prelude.{slice_index}
use Rattle.odd_sets.proofs.SetFacts.{blossom, link, matches, part, place}

none_there : 1 ≤ 0 → ⊥
none_there is = omega (arith, is)

-- the parts of the blossom and one more
abbrev parts : List PartValue
parts = part (place 1 4) 1 2 ∷ part (place 2 5) 2 3 ∷ part (place 3 6) 3 4 ∷ part (place 4 7) 4 1 ∷ []

abbrev pair : OddSetValue → OddSetValue → TightEdge → MatchValue
pair first second between = record { first = first; second = second; link = between }

pub known_along : matches_along parts ≡ pair (place 1 4) (place 2 5) (link 1 2) ∷ pair (place 3 6) (place 4 7) (link 3 4) ∷ []
known_along = refl

-- the second of two parts and the second of two matches hold what is theirs alone
pub known_part_at : (PartHoldsAt 2 parts 1 → 1 ≤ 1) × (PartHoldsAt 2 parts 2 → ⊥) × (PartHoldsAt 2 parts 4 → ⊥)
known_part_at = (λ holds. holds, λ holds. none_there holds, λ holds. holds)

pub known_match_at : (MatchHolds 2 matches 0 → 1 ≤ 1) × (MatchHolds 2 matches 1 → ⊥) × (MatchHolds 2 matches 2 → ⊥)
known_match_at = (λ holds. holds, λ holds. none_there holds, λ holds. holds)

pub known_holders : PartHoldsAt 3 parts 2 × MatchHolds 6 matches 1
known_holders = (omega arith, omega arith)

-- a match becomes a branch below the edge that meets it, on either side
pub known_branch : (branch_by_edge (link 0 5) (pair (place 5 1) (place 6 2) (link 5 6))
    ≡ record { up = link 0 5; inner = place 5 1; pair = link 5 6; outer = place 6 2 })
    × (branch_by_edge (link 0 6) (pair (place 5 1) (place 6 2) (link 5 6))
    ≡ record { up = link 0 6; inner = place 6 2; pair = link 6 5; outer = place 5 1 })
known_branch = (refl, refl)

-- a rotation begins within the list
pub known_rotated : (new : List ℕ) (is : IsRotated (4 ∷ 5 ∷ 6 ∷ []) new) → is.at ≡ 2 → (2 < 3 → new ≡ 6 ∷ 4 ∷ 5 ∷ [])
known_rotated new is two below = subst (λ (at : ℕ). new ≡ drop at (4 ∷ 5 ∷ 6 ∷ []) ++ take at (4 ∷ 5 ∷ 6 ∷ [])) two is.is

pub known_beyond : (new : List ℕ) (is : IsRotated (4 ∷ 5 ∷ 6 ∷ []) new) → is.at ≡ 3 → ⊥
known_beyond new is three = let below : is.at < 3 = is.within in omega (arith, below, three)

-- a match is removed that holds the place
pub known_removed : (new : List MatchValue) (c : MatchValue) (is : RemovesMatch 6 matches new c)
    → (matches ≡ is.before ++ c ∷ is.after) × (new ≡ is.before ++ is.after)
    × (1 ≤ count 6 c.first.members + count 6 c.second.members)
known_removed new c is = (is.was, is.now, is.here)

-- cells rise and fall, and are the heights
pub known_cells : (old new cells : List ℕ) (h : ℕ → ℕ)
    → (Rises h old new → slice_index new 3 ≡ slice_index old 3 + h 3) × (Falls h old new → slice_index new 3 + h 3 ≡ slice_index old 3)
    × (HeightsAre cells h → slice_index cells 3 ≡ h 3)
known_cells old new cells h = (λ rises. rises 3, λ falls. falls 3, λ are. are 3)

pub known_can : (times h : ℕ → ℕ) (cells : List ℕ) → (HasCells times cells → 1 ≤ times 3 → 3 < length cells)
    × (CanRise h cells → slice_index cells 3 + h 3 < 4294967296) × (CanFall h cells → h 3 ≤ slice_index cells 3)
known_can times h cells = (λ has once. has 3 once, λ can. can 3, λ can. can 3)

-- each item with each later one, and no item with an earlier one
pub known_pairs : (P : ℕ → ℕ → Type 0) → EachPair P (4 ∷ 7 ∷ 9 ∷ []) → P 4 7 × P 4 9 × P 7 9
known_pairs P each = (each.0.0, each.0.1.0, each.1.0.0)

-- another dual changes the dual alone
pub known_dual : with_dual 2 (place 1 4) ≡ place 1 2
known_dual = refl

-- the values of matches are those of their sets, and their edges
pub known_values : (sets : Slots) (m : Match) → matches_in sets (m ∷ []) ≡ pair (set_in sets m.first) (set_in sets m.second) m.link ∷ []
known_values sets m = refl

-- the distances of a table, in each place, and to the last one
pub known_entries : (d : ℕ → ℕ → ℕ) → EntriesAre (record { places = 2; cells = 0 ∷ 7 ∷ 7 ∷ 0 ∷ [] }) d
    → (7 ≡ d 0 1) × (7 ≡ d 1 0) × (0 ≡ d 1 1)
known_entries d are = (are 0 1 (omega arith) (omega arith), are 1 0 (omega arith) (omega arith), are 1 1 (omega arith) (omega arith))

-- opened at place 3, the blossom is a part that keeps 3, and a match
pub known_opened : (core : OddSetValue) (c : MatchValue) (d : TableValue) → OpensAt 3 blossom (Some core) (c ∷ [])
    → (1 ≡ count 2 core.members + count 2 (match_members (c ∷ []))) × (6 ≡ height 3 (dual_sets core)) × (count 3 core.members ≡ 1)
    × (count c.link.from c.first.members ≡ 1) × (count c.link.to c.second.members ≡ 1)
    × ((F : List DualSet → ℕ) → IsAdditive F → F blossom.below ≡ F (dual_sets core) + F (match_dual_sets (c ∷ [])))
    × (AreTightInside d blossom.blossom_edges → AreTightInside d core.blossom_edges × IsTightMatch d c)
    × ((x : ℕ) × (1 ≤ count x (match_members (c ∷ []))))
known_opened core c d opens = (
  opens.places 2,
  opens.tall,
  opens.holds.0,
  opens.joined.0.from,
  opens.joined.0.to,
  opens.sums,
  λ tight. let paid = opens.paid d tight in (paid.0, paid.1.0),
  opens.holds.1,
)

-- a vertex opens into itself, and no even set opens
pub known_opened_vertex : (cs : List MatchValue) → OpensAt 3 (place 3 6) None cs → (count 3 (match_members cs) ≡ 0)
    × ((F : List DualSet → ℕ) → IsAdditive F → F [] ≡ F [] + F (match_dual_sets cs))
known_opened_vertex cs opens = (omega (arith, opens.places 3), opens.sums)

pub known_opened_even : (s : OddSetValue) (cs : List MatchValue) → s.members ≡ 1 ∷ 2 ∷ [] → OpensAt 1 s None cs → ⊥
known_opened_even s cs are opens = let odd : length s.members % 2 ≡ 1 = opens.odd in other (rw are at odd)
  where
    other : ◌≡◌ {A = ℕ} 0 1 → ⊥
    other is = omega (arith, is)

-- a tight match: the heights of its ends are twice their distance, and its sets are tight inside
pub known_tight : (d : TableValue) → IsTightMatch d (pair (place 1 4) (place 2 6) (link 1 2)) → 2 * entry d 1 2 ≡ 10
known_tight d tight = tight.link

pub known_tight_inside : (d : TableValue) → IsTightMatch d (pair blossom blossom (link 1 2))
    → (2 * entry d 1 2 ≡ 9) × (2 * entry d 2 3 ≡ 11)
known_tight_inside d tight = (tight.first.0, tight.second.1.0)
