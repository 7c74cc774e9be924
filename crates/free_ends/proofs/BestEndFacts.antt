-- Worked values of the definitions, and what the parts of the promise exclude.
use Rattle.std.proofs.Common.{◌≡◌, ◌≢◌, ◌<◌, ℕ, ◌+◌, true, false, List, [], ◌∷◌, Option, Some, None, Contains, length, arith, refl, sym, ◌∙◌}
use Rattle.design_model.specs.Points.{origin}
use Rattle.free_ends.proofs.Names.{AreBestEnds, BestEnds, HasFreeEnds, IsBestChoice, IsCoveringWalk, IsLeastClosedCost, Pair, Pass, PieceValue, RowsValue, WalkEnds, WalkLeads, covers, end_distance, ends_by, is_fitting_walk, mate_of, odd_junctions, piece_with_ends, walk_cost}
use Rattle.free_ends.specs.PieceEnds.{IsFound, one_end, with_point_spot}
use Rattle.free_ends.specs.declared.end_choice.TheConstants.{MAX_ODD}
use Rattle.free_ends.specs.declared.piece_ends.PieceEnds.TheVariants as found
use Rattle.line_sections.specs.declared.spot.Spot.{Spot}

abbrev pair : ℕ → ℕ → Pair
pair a b = record { a = a; b = b }

-- four odd junctions 7, 5, 3 and 2: the free ends, places 4 and 5, are matched with the places 2 and 0
abbrev pairs : List Pair
pairs = pair 2 4 ∷ pair 1 3 ∷ pair 5 0 ∷ []

-- each end of a pair is found from the other, and a place without a pair is its own mate
pub known_mates : (mate_of 4 pairs ≡ 2) × (mate_of 5 pairs ≡ 0) × (mate_of 3 pairs ≡ 1) × (mate_of 6 pairs ≡ 6)
known_mates = (refl, refl, refl, refl)

-- the walk starts at the mate of the first free end, and ends at that of the second
pub known_ends : ends_by (7 ∷ 5 ∷ 3 ∷ 2 ∷ []) pairs ≡ Some (record { start = 3; end = 7 })
known_ends = refl

-- there are none where the free ends are matched with each other
pub known_no_ends : ends_by (7 ∷ 5 ∷ []) (pair 0 1 ∷ pair 3 2 ∷ []) ≡ None
known_no_ends = refl

-- nor where only one of them is matched with a terminal
pub known_one_matched : (ends_by (7 ∷ 5 ∷ []) (pair 0 2 ∷ []) ≡ None) × (ends_by (7 ∷ 5 ∷ []) (pair 0 3 ∷ []) ≡ None)
known_one_matched = (refl, refl)

abbrev rows : RowsValue
rows = record { terminals = 1 ∷ 3 ∷ []; table = (4 ∷ 0 ∷ 5 ∷ 6 ∷ []) ∷ (9 ∷ 6 ∷ 2 ∷ 0 ∷ []) ∷ [] }

-- the distance of two terminals, of one and a free end, and of the two free ends
pub known_distances : (end_distance rows 0 1 ≡ 6) × (end_distance rows 1 2 ≡ 100000) × (end_distance rows 0 3 ≡ 100000)
    × (end_distance rows 2 3 ≡ 200000)
known_distances = (refl, refl, refl, refl)

-- the start where the flag is set, else the end
pub known_one_end : (one_end true (record { start = 3; end = 7 }) ≡ 3) × (one_end false (record { start = 3; end = 7 }) ≡ 7)
known_one_end = (refl, refl)

abbrev spot : ℕ → Spot
spot block = record { block = block; at = origin }

-- a spot comes after those of its block, and none is added where there is no point
pub known_spots : (with_point_spot 1 (spot 0 ∷ spot 1 ∷ spot 2 ∷ []) (Some origin) ≡ spot 0 ∷ spot 1 ∷ spot 1 ∷ spot 2 ∷ [])
    × (with_point_spot 1 (spot 0 ∷ []) None ≡ spot 0 ∷ [])
known_spots = (refl, refl)

-- best ends are odd, and two
pub known_odd : (p : PieceValue) (ends : WalkEnds) (cost : ℕ) → AreBestEnds p (Some ends) cost
    → Contains (odd_junctions p) ends.start × Contains (odd_junctions p) ends.end × (ends.start ≢ ends.end)
known_odd p ends cost best = best.odd

no_item : (j : ℕ) (rest : List ℕ) → j ∷ rest ≡ [] → ⊥
no_item j rest is = cc

-- no ends where a junction is odd aren't the best
pub known_none : (p : PieceValue) (cost j : ℕ) (rest : List ℕ) → odd_junctions p ≡ j ∷ rest → AreBestEnds p None cost → ⊥
known_none p cost j rest some best = no_item j rest (sym some ∙ best.none refl)

-- no walk over all lines costs one step less
pub known_least : (p : PieceValue) (ends : Option WalkEnds) (cost : ℕ) (other : List Pass) → AreBestEnds p ends cost
    → IsCoveringWalk p other
    → walk_cost p other + 1 ≡ cost → ⊥
known_least p ends cost other best covers less = omega (arith, best.least other covers, less)

-- such a walk leads from one junction to another, and passes each line
pub known_covering : (p : PieceValue) (walk : List Pass) (is : IsCoveringWalk p walk)
    → WalkLeads p is.from is.to walk × (covers p.lines walk ≡ true)
known_covering p walk is = (is.leads, is.covered)

-- a walk with these ends has that cost
pub known_walk : (p : PieceValue) (ends : Option WalkEnds) (cost : ℕ) → AreBestEnds p ends cost
    → (walk : List Pass) × (is_fitting_walk (piece_with_ends p ends) walk ≡ true) × (walk_cost p walk ≡ cost)
known_walk p ends cost best = (best.walk, best.fitting, best.costs)

-- no closed walk costs one step less than a least one
pub known_closed : (p : PieceValue) (cost : ℕ) (other : List Pass) → IsLeastClosedCost p cost → is_fitting_walk p other ≡ true
    → walk_cost p other + 1 ≡ cost → ⊥
known_closed p cost other closed fits less = omega (arith, closed.least other fits, closed.costs, less)

-- best ends are not worse than none
pub known_saving : (p : PieceValue) (best : BestEnds) → IsBestChoice p best
    → AreBestEnds p best.ends best.cost × (walk : List Pass) × (walk_cost p walk ≡ best.closed) × (is_fitting_walk p walk ≡ true)
known_saving p best choice = (choice.ends, choice.closed.walk, choice.closed.costs, choice.closed.fitting)

-- too many are more than are searched, and a piece with ends has none to find
pub known_found : (p : PieceValue) (best : BestEnds) → (IsFound p found.TooMany → MAX_ODD < length (odd_junctions p))
    × (IsFound p (found.Best best) → IsFound p found.Given → ⊥)
known_found p best = (λ is. is.1, λ is given. given is.0)

-- a piece with a start, or with an end, has no free ends
pub known_given : (p : PieceValue) (n : ℕ) → (HasFreeEnds (record p { start = Some n }) → ⊥)
    × (HasFreeEnds (record p { end = Some n }) → ⊥)
known_given p n = (λ free. given free.start, λ free. given free.end)
  where
    given : ◌≡◌ {A = Option ℕ} (Some n) None → ⊥
    given is = cc
