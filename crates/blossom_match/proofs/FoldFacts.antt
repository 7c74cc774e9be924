-- Worked values of blossoms that close, and of the slacks after it.
use Rattle.std.proofs.Common.{◌≡◌, ℕ, inl, inr, List, [], ◌∷◌, arith, refl}
use Rattle.blossom_match.proofs.Names.{vertex_set, OddSetValue, FoldsCells, FoldsOuters, count_holding_both, slack_from, ReachesEither, TableValue, BranchValue, TightEdge, odd_set_of, PartValue}
use Rattle.odd_sets.specs.BlossomSlacks.{blossom_set}

-- 0, 1 and 2 are 2 from each other; 3 is 5 from 0, 4 from 1 and 6 from 2
abbrev four : TableValue
four = record { places = 4; cells = 0 ∷ 2 ∷ 2 ∷ 5 ∷ 0 ∷ 0 ∷ 2 ∷ 4 ∷ 0 ∷ 0 ∷ 0 ∷ 6 ∷ 0 ∷ 0 ∷ 0 ∷ 0 ∷ [] }

abbrev link : ℕ → ℕ → TightEdge
link from to = record { from = from; to = to }

abbrev place : ℕ → OddSetValue
place x = vertex_set x four x 2

abbrev part : ℕ → ℕ → PartValue
part x to = record { odd_set = place x; next = link x to }

-- 0 is the root, 1 the inner vertex of its branch and 2 the outer one; all three close
abbrev old : List BranchValue
old = record { up = link 0 1; inner = place 1; pair = link 1 2; outer = place 2 } ∷ []

abbrev blossom : OddSetValue
blossom = blossom_set 9 (part 0 1 ∷ part 1 2 ∷ part 2 0 ∷ [])

pub known_count_holding_both : (count_holding_both 2 2 (place 0) old ≡ 1)
    × (count_holding_both 0 1 blossom [] ≡ 1)
known_count_holding_both = (refl, refl)

-- the blossom must be outer
pub none_outside : FoldsOuters blossom (place 0) (place 3) old [] → ⊥
none_outside f = absurd (omega (arith, f.holds 1 1))

-- an outer set beside it stays
pub none_lost : FoldsOuters blossom (place 3) blossom old [] → ⊥
none_lost f = absurd (omega (arith, f.same 3 3 refl))

-- and holds none of its vertices
pub none_shared : FoldsOuters blossom (place 0) (odd_set_of 8 (1 ∷ 3 ∷ []) 0 [] []) old [] → ⊥
none_shared f = absurd (omega (arith, f.apart 1 3 (omega arith) refl))

-- the cell of a vertex that isn't in it is at most that of its row: 6, by 1
pub known_row : FoldsCells blossom (400001 ∷ 400001 ∷ 400001 ∷ 9 ∷ []) (400001 ∷ 400001 ∷ 400001 ∷ 7 ∷ []) → ⊥
known_row f = absurd (omega (arith, f.merged 3 (omega arith), f.cleared.off 3 refl))

-- and its own cells are far
pub none_within : FoldsCells blossom (400001 ∷ 400001 ∷ 400001 ∷ 9 ∷ []) (400001 ∷ 4 ∷ 400001 ∷ 6 ∷ []) → ⊥
none_within f = absurd (omega (arith, f.cleared.on 1 (omega arith)))

-- 0 and 3 are 5 apart, so that 10 less 2 is left from 0, and 10 less 1 from 3: the cell of either is enough
pub known_left : slack_from four (2 ∷ 2 ∷ 2 ∷ 1 ∷ []) 0 3 ≡ 8
known_left = refl

pub known_first : ReachesEither four (2 ∷ 2 ∷ 2 ∷ 1 ∷ []) (400001 ∷ 0 ∷ 0 ∷ 8 ∷ []) 0 3
known_first = inl (omega arith)

pub known_second : ReachesEither four (2 ∷ 2 ∷ 2 ∷ 1 ∷ []) (9 ∷ 0 ∷ 0 ∷ 400001 ∷ []) 0 3
known_second = inr (omega arith)

pub none_reached : ReachesEither four (2 ∷ 2 ∷ 2 ∷ 1 ∷ []) (10 ∷ 0 ∷ 0 ∷ 9 ∷ []) 0 3 → ⊥
none_reached (inl low) = absurd (omega (arith, low))
none_reached (inr low) = absurd (omega (arith, low))
