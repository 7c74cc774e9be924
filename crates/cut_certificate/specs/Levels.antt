-- The levels at which junctions enter the cuts of moats. A moat is a set of terminals, and a
-- terminal is given by its index in the rows. Levels and widths count halves of a step, costs count
-- steps.
use Rattle.std.specs.Prelude.{ℕ, ◌+◌, ◌-◌, ◌*◌, min, List, [], ◌∷◌, Bool, length, nat_lt, ◌&&◌, if◌then◌else◌}
use Rattle.blossom_match.specs.declared.matching.Moat.{Moat}
use Rattle.odd_cuts.specs.Cuts.{has_member}
use Rattle.odd_paths.specs.LeastRows.{RowsValue, cost_at, terminal_of}

-- The input of lifting: the numbers of terminals and junctions, the junction of each terminal, the
-- least costs, and the moats.
pub record LiftInput : Type 0 where
  pub places : ℕ
  pub size : ℕ
  pub spot : ℕ → ℕ
  pub least : ℕ → ℕ → ℕ
  pub moats : List Moat

-- The input of lifting, from rows of least costs and moats over their terminals.
abbrev pub lift_input : RowsValue → ℕ → List Moat → LiftInput
lift_input rows size moats = record {
  places = length rows.terminals;
  size = size;
  spot = terminal_of rows;
  least = cost_at rows;
  moats = moats;
}

-- The total width of the moats that pass a test.
abbrev pub width_sum : (Moat → Bool) → List Moat → ℕ
width_sum test [] = 0
width_sum test (m ∷ rest) = (if test m then m.width else 0) + width_sum test rest

-- A moat holds a terminal, and has fewer members than the moat s.
abbrev pub is_inner : Moat → ℕ → Moat → Bool
is_inner s t m = has_member m.members t && nat_lt (length m.members) (length s.members)

-- The total width of the moats around a terminal that are smaller than the moat s.
abbrev pub depth : LiftInput → Moat → ℕ → ℕ
depth g s t = width_sum (is_inner s t) g.moats

-- The distance of a junction from a terminal, beyond the smaller moats around that terminal.
abbrev pub distance_beyond : LiftInput → Moat → ℕ → ℕ → ℕ
distance_beyond g s j t = 2 * g.least t j - depth g s t

-- The minimum of a limit and of the numbers at the given terminals.
abbrev pub lowest : (ℕ → ℕ) → ℕ → List ℕ → ℕ
lowest at limit [] = limit
lowest at limit (t ∷ rest) = min (at t) (lowest at limit rest)

-- The level at which a junction enters the cuts of a moat. The value is the minimum of the width
-- and of the distances from all members, each beyond the smaller moats there.
abbrev pub level : LiftInput → Moat → ℕ → ℕ
level g s j = lowest (distance_beyond g s j) s.width s.members
