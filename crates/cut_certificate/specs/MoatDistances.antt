-- The distances of junctions from moats, computed from small moats to large ones. They come from
-- the rows of the terminals that no smaller moat holds, and from the distances of the outermost
-- moats inside. Distances and widths count halves of a step, costs count steps.
use Rattle.std.specs.Prelude.{◌≡◌, ℕ, ◌-◌, ◌*◌, ◌<◌, ◌≤◌, List, [], ◌∷◌, Option, Some, None, Vec, length, min, true, All, AllPairs, slice_get, slice_index}
use Rattle.std.proofs.Common.{Global}
use Rattle.blossom_match.specs.declared.matching.Moat.{Moat}
use Rattle.blossom_match.specs.Matchings.{AreLaminar, IsOddMoat}
use Rattle.cut_certificate.specs.declared.terminal_state.TerminalState.{TerminalState}
use Rattle.cut_certificate.specs.declared.terminal_state.TerminalState.TheVariants as stand
use Rattle.cut_certificate.specs.declared.moat_distances.LiftProgress.{LiftProgress}
use Rattle.odd_cuts.specs.Cuts.{has_member}
use Rattle.cut_certificate.specs.Levels.{LiftInput, distance_beyond, lift_input}
use Rattle.cut_certificate.specs.TerminalStates.{AreTerminalStates, IsProcessed}
use Rattle.line_graph.specs.declared.limits.TheConstants.{MAX_COST}
use Rattle.odd_paths.specs.LeastRows.{RowsValue, cost_at, row_length}

-- The distances of all junctions from a moat: each is the least distance from a member, beyond the
-- smaller moats around that member.
pub record AreDistancesFrom (g : LiftInput) (s : Moat) (reach : List ℕ) : Type 0 where
  pub sized : length reach ≡ g.size
  pub most : (j t : ℕ) → j < g.size → has_member s.members t ≡ true
      → slice_index reach j ≤ distance_beyond g s j t
  pub some : (j : ℕ) → j < g.size
      → (t : ℕ) × (has_member s.members t ≡ true) × (distance_beyond g s j t ≤ slice_index reach j)

-- Rows with a cost for each junction, and odd moats over their terminals.
pub record HasRowsForMoats (rows : RowsValue) (size : ℕ) (moats : List Moat) : Type 0 where
  pub rows_sized : length rows.table ≡ length rows.terminals
  pub wide : (t : ℕ) → t < length rows.terminals → row_length rows t ≡ size
  pub low : (t j : ℕ) → t < length rows.terminals → j < size → cost_at rows t j ≤ MAX_COST
  pub odd : All (IsOddMoat (length rows.terminals)) moats
  pub laminar : AllPairs AreLaminar moats

-- The distances of all junctions from each processed moat.
abbrev pub AreProcessedDistances : LiftInput → (members before : ℕ) → List (Vec ℕ Global) → Type 0
AreProcessedDistances g members before reaches = (i : ℕ) (m : Moat) (v : Vec ℕ Global)
    → slice_get g.moats i ≡ Some m
    → IsProcessed members before i m → slice_get reaches i ≡ Some v → AreDistancesFrom g m v.items

-- The distances of all junctions from each moat.
abbrev pub AreAllMoatDistances : LiftInput → List (Vec ℕ Global) → Type 0
AreAllMoatDistances g reaches = (length reaches ≡ length g.moats)
    × ((i : ℕ) (m : Moat) (v : Vec ℕ Global) → slice_get g.moats i ≡ Some m
    → slice_get reaches i ≡ Some v
    → AreDistancesFrom g m v.items)

-- The states of the terminals and the distances, when some moats were processed.
pub record IsProgress (g : LiftInput) (members before : ℕ) (stands : List TerminalState)
    (reaches : List (Vec ℕ Global))
    : Type 0 where
  pub standing : AreTerminalStates g.moats g.places members before stands
  pub beside : length reaches ≡ length g.moats
  pub made : AreProcessedDistances g members before reaches

-- The invariant of lifting: the moats of fewer members, and those before an index, were processed.
abbrev pub HasProgress : RowsValue → (size : ℕ) → List Moat → (members before : ℕ) → LiftProgress
    → Type 0
HasProgress rows size moats members before p =
    IsProgress (lift_input rows size moats) members before p.stands.items p.reaches.items

-- The next moat to process: each processed one has fewer members, or as many and a lower index.
pub record IsNextMoat (g : LiftInput) (s : Moat) (stands : List TerminalState)
    (reaches : List (Vec ℕ Global))
    : Type 0 where
  pub index : ℕ
  pub at : slice_get g.moats index ≡ Some s
  pub progress : IsProgress g (length s.members) index stands reaches

-- The distance from a terminal can be computed: it has a row and a state, and its outermost moat
-- has a distance for each junction.
pub record HasDistance (rows : RowsValue) (size : ℕ) (moats : List Moat)
    (stands : List TerminalState)
    (reaches : List (Vec ℕ Global)) (t : ℕ) : Type 0 where
  pub place : t < length rows.terminals
  pub stands_there : t < length stands
  pub moat : (c : ℕ) → slice_get stands t ≡ Some (stand.First c) → c < length moats
  pub beside : (c : ℕ) → slice_get stands t ≡ Some (stand.First c) → c < length reaches
  pub wide : (c : ℕ) (v : Vec ℕ Global) → slice_get stands t ≡ Some (stand.First c)
      → slice_get reaches c ≡ Some v → length v.items ≡ size

-- The distances from all given terminals can be computed.
abbrev pub HaveDistances : RowsValue → List Moat → List TerminalState → List (Vec ℕ Global)
    → (places reach : List ℕ) → Type 0
HaveDistances rows moats stands reaches places reach =
    All (HasDistance rows (length reach) moats stands reaches) places

-- The distance of a junction beyond a moat whose distances are known.
abbrev pub distance_past : Option Moat → Option (Vec ℕ Global) → ℕ → Option ℕ
distance_past (Some m) (Some v) j = Some (slice_index v.items j - m.width)
distance_past (Some m) None j = None
distance_past None reach j = None

-- The distance of a junction from a terminal in a given state, beyond the outermost moat of which
-- the terminal is the first member.
abbrev pub distance_from : LiftInput → List (Vec ℕ Global) → (t j : ℕ) → Option TerminalState
    → Option ℕ
distance_from g reaches t j (Some stand.Free) = Some (2 * g.least t j)
distance_from g reaches t j (Some (stand.First c)) = distance_past (slice_get g.moats c)
    (slice_get reaches c) j
distance_from g reaches t j (Some stand.Inside) = None
distance_from g reaches t j None = None

-- The minimum of an optional number and a number.
abbrev pub lesser_of : Option ℕ → ℕ → ℕ
lesser_of None far = far
lesser_of (Some near) far = min near far

-- A number lowered to the distances from each of the terminals.
abbrev pub lowered_distance : LiftInput → List TerminalState → List (Vec ℕ Global) → (j far : ℕ)
    → List ℕ → ℕ
lowered_distance g stands reaches j far [] = far
lowered_distance g stands reaches j far (t ∷ rest) =
    lowered_distance g stands reaches j
    (lesser_of (distance_from g reaches t j (slice_get stands t)) far) rest

-- Each number is lowered to the distances from the terminals.
abbrev pub AreLoweredDistances : RowsValue → List Moat → List TerminalState → List (Vec ℕ Global)
    → (places old new : List ℕ) → Type 0
AreLoweredDistances rows moats stands reaches places old new = (j : ℕ) → j < length old
    → slice_index new j
    ≡ lowered_distance (lift_input rows (length old) moats) stands reaches j (slice_index old j)
    places

-- Each number is the minimum of its old value and of the one at its index.
abbrev pub AreLesser : (ℕ → ℕ) → (old new : List ℕ) → Type 0
AreLesser at old new = (j : ℕ) → j < length old → slice_index new j ≡ min (at j) (slice_index old j)
