-- Moats that are processed from small to large, over the star of LevelFacts: what the states of terminals and the distances are.
use Rattle.std.proofs.Common.{◌≡◌, ℕ, ◌*◌, ◌<◌, ◌≤◌, ◌⊎◌, inl, true, false, List, [], ◌∷◌, All, Vec, Global, Some, length, refl, arith, true≢false}
use Rattle.std.specs.List.{AllPairs}
use Rattle.std.specs.Prelude.{slice_get, slice_index}
use Rattle.cut_certificate.proofs.Names.{AreAllMoatDistances, AreLaminar, HasRowsForMoats, IsFirst, IsNextMoat, IsOddMoat, IsOutermost, IsProgress, Moat, RowsValue, TerminalState, cost_at, distance_beyond, has_member}
use Rattle.cut_certificate.specs.MoatDistances.{AreLesser, AreLoweredDistances, HasProgress, HaveDistances}
use Rattle.cut_certificate.specs.declared.moat_distances.LiftProgress.{LiftProgress}
use Rattle.cut_certificate.specs.declared.terminal_state.TerminalState.TheVariants as stand
use Rattle.odd_paths.specs.LeastRows.{row_length}
use Rattle.cut_certificate.proofs.LevelFacts.{around_three, first, last, rows, second, star}

abbrev moats : List Moat
moats = first ∷ around_three ∷ second ∷ last ∷ []

-- with the moats of fewer than 3 members processed: a state for each terminal, and distances for each moat
pub known_progress : (stands : List TerminalState) (reaches : List (Vec ℕ Global)) → IsProgress star 3 0 stands reaches
    → (length stands ≡ 4) × (length reaches ≡ 4)
    × ((slice_get stands 2 ≡ Some stand.Free) ⊎ IsFirst moats 3 0 2 stands)
    × ((c : ℕ) → slice_get stands 1 ≡ Some (stand.First c) → IsOutermost moats 3 0 1 1 c)
known_progress stands reaches is =
    (is.standing.sized, is.beside, is.standing.held 2 (omega arith), λ c at. is.standing.first 1 c at)

-- the last terminal has its moat around it, so isn't free
pub known_covered : (stands : List TerminalState) (reaches : List (Vec ℕ Global)) → IsProgress star 3 0 stands reaches
    → slice_get stands 3 ≡ Some stand.Free → ⊥
known_covered stands reaches is free = true≢false (is.standing.free 3 free 3 last refl (inl (omega arith)))

-- the distances from the first moat are known: for each junction the least of its one member, the hub at twice its cost
pub known_distances : (stands : List TerminalState) (reaches : List (Vec ℕ Global)) (v : Vec ℕ Global) → IsProgress star 3 0 stands reaches
    → slice_get reaches 0 ≡ Some v
    → (length v.items ≡ 5) × (slice_index v.items 4 ≤ 2)
    × ((t : ℕ) × (has_member (0 ∷ []) t ≡ true) × (distance_beyond star first 4 t ≤ slice_index v.items 4))
known_distances stands reaches v is at = let are = is.made 0 first v refl (inl (omega arith)) at in
    let some = are.some 4 (omega arith) in (are.sized, are.most 4 0 (omega arith) refl, (some.0, some.1, some.2))

-- the outermost moat around a terminal was processed, holds both terminals, and none that was processed is larger
pub known_outermost : (h c : ℕ) (is : IsOutermost moats 3 1 1 h c) → (slice_get moats c ≡ Some is.moat)
    × ((length is.moat.members < 3) ⊎ ((length is.moat.members ≡ 3) × (c < 1)))
    × (has_member is.moat.members 1 ≡ true) × (has_member is.moat.members h ≡ true) × (1 ≤ length is.moat.members)
known_outermost h c is = (is.at, is.done, is.around, is.first, is.largest 2 second refl (inl (omega arith)) refl)

-- where a terminal's outermost moat is recorded
pub known_first : (stands : List TerminalState) → IsFirst moats 3 1 1 stands
    → (h : ℕ) × (c : ℕ) × (slice_get stands h ≡ Some (stand.First c)) × IsOutermost moats 3 1 1 h c
known_first stands is = (is.0, is.1, is.2, is.3)

-- a moat comes next when those with fewer members are processed, and those before it
pub known_next : (stands : List TerminalState) (reaches : List (Vec ℕ Global)) (is : IsNextMoat star around_three stands reaches)
    → (slice_get moats is.index ≡ Some around_three) × IsProgress star 3 is.index stands reaches
known_next stands reaches is = (is.at, is.progress)

pub known_lifting : (p : LiftProgress) → HasProgress rows 5 moats 3 0 p → (length p.stands.items ≡ 4) × (length p.reaches.items ≡ 4)
known_lifting p has = (has.standing.sized, has.beside)

-- at last the distances from all moats are known
pub known_all : (reaches : List (Vec ℕ Global)) (v : Vec ℕ Global) → AreAllMoatDistances star reaches → slice_get reaches 3 ≡ Some v
    → (length reaches ≡ 4) × (slice_index v.items 4 ≤ 10) × (length v.items ≡ 5)
known_all reaches v are at = let last_are = are.1 3 last v refl at in (are.0, last_are.most 4 3 (omega arith) refl, last_are.sized)

-- rows with a cost for each junction, none above 200,000 steps, and odd moats over their terminals
pub known_rows : (r : RowsValue) → length r.terminals ≡ 3 → HasRowsForMoats r 5 moats
    → (length r.table ≡ 3) × (row_length r 2 ≡ 5) × (cost_at r 2 4 ≤ 200000) × All (IsOddMoat (length r.terminals)) moats
    × AllPairs AreLaminar moats
known_rows r three has = (
  omega (arith, has.rows_sized, three),
  has.wide 2 (omega (arith, three)),
  has.low 2 4 (omega (arith, three)) (omega arith),
  has.odd,
  has.laminar,
)

-- a distance can be computed from a terminal that has a row and a state, and whose outermost moat has its distances
pub known_have : (stands : List TerminalState) (reaches : List (Vec ℕ Global)) (c : ℕ) (v : Vec ℕ Global)
    → HaveDistances rows moats stands reaches (2 ∷ 1 ∷ []) (9 ∷ 9 ∷ 9 ∷ 9 ∷ 9 ∷ []) → slice_get stands 1 ≡ Some (stand.First c)
    → slice_get reaches c ≡ Some v → (1 < length stands) × (c < 4) × (c < length reaches) × (length v.items ≡ 5)
known_have stands reaches c v have at there = let is = have 1 0 (omega arith) in
    (is.stands_there, is.moat c at, is.beside c at, is.wide c v at there)

pub known_no_row : (stands : List TerminalState) (reaches : List (Vec ℕ Global)) → HaveDistances rows moats stands reaches (4 ∷ []) [] → ⊥
known_no_row stands reaches have = far (have 0 0 (omega arith)).place
  where
    far : 4 < 4 → ⊥
    far less = omega (arith, less)

-- each number is lowered to the nearest of two free terminals, and not to one inside
pub known_lowered : (new : List ℕ)
    → AreLoweredDistances rows moats (stand.Inside ∷ stand.Free ∷ stand.Free ∷ []) [] (0 ∷ 2 ∷ 1 ∷ []) (100 ∷ 100 ∷ 5 ∷ 100 ∷ 100 ∷ []) new
    → (slice_index new 4 ≡ 2) × (slice_index new 2 ≡ 0)
known_lowered new are = (are 4 (omega arith), are 2 (omega arith))

pub known_lesser : (new : List ℕ) → AreLesser (λ j. 3 * j) (5 ∷ 5 ∷ 5 ∷ []) new → (slice_index new 1 ≡ 3) × (slice_index new 2 ≡ 5)
known_lesser new are = (are 1 (omega arith), are 2 (omega arith))
