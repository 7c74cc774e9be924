-- Four terminals, each on a line of its own to a hub, at costs 1, 1, 2 and 5. Moats of width 2 and 1 around the first two,
-- of width 11 around the last, and of width 3 around the first three.
use Rattle.std.proofs.Common.{◌≡◌, [], ◌∷◌, Some, None, true, nat_lt, ◌-◌, refl}
use Rattle.cut_certificate.proofs.Names.{Moat, RowsValue, LiftInput, distance_beyond, depth, level, lowest, lift_input, width_sum, lowered_distance, distance_from, surrounded}
use Rattle.cut_certificate.specs.declared.terminal_state.TerminalState.TheVariants as stand

abbrev pub first : Moat
first = record { members = 0 ∷ []; width = 2 }

abbrev pub second : Moat
second = record { members = 1 ∷ []; width = 1 }

abbrev pub around_three : Moat
around_three = record { members = 2 ∷ 0 ∷ 1 ∷ []; width = 3 }

abbrev pub last : Moat
last = record { members = 3 ∷ []; width = 11 }

abbrev pub rows : RowsValue
rows = record {
  terminals = 0 ∷ 1 ∷ 2 ∷ 3 ∷ [];
  table = (0 ∷ 2 ∷ 3 ∷ 6 ∷ 1 ∷ []) ∷ (2 ∷ 0 ∷ 3 ∷ 6 ∷ 1 ∷ []) ∷ (3 ∷ 3 ∷ 0 ∷ 7 ∷ 2 ∷ []) ∷ (6 ∷ 6 ∷ 7 ∷ 0 ∷ 5 ∷ []) ∷ [];
}

-- the hub is junction 4
abbrev pub star : LiftInput
star = lift_input rows 5 (first ∷ around_three ∷ second ∷ last ∷ [])

-- the terminals and the junctions, where a terminal is, the costs from it, and the moats
pub known_input : (star.places ≡ 4) × (star.size ≡ 5) × (star.spot 2 ≡ 2) × (star.least 1 3 ≡ 6) × (star.least 3 4 ≡ 5)
    × (star.moats ≡ first ∷ around_three ∷ second ∷ last ∷ [])
known_input = (refl, refl, refl, refl, refl, refl)

-- of all four, and of none but the wide ones
pub known_widths : (width_sum (λ m. true) (first ∷ around_three ∷ second ∷ last ∷ []) ≡ 17)
    × (width_sum (λ m. nat_lt 2 m.width) (first ∷ around_three ∷ second ∷ last ∷ []) ≡ 14)
known_widths = (refl, refl)

-- a moat is not below itself, nor one around another terminal
pub known_depths : (depth star around_three 0 ≡ 2) × (depth star around_three 1 ≡ 1) × (depth star around_three 2 ≡ 0) ×
    (depth star first 0 ≡ 0)
known_depths = (refl, refl, refl, refl)

-- twice the cost, less the moat around the first terminal
pub known_beyond : (distance_beyond star around_three 3 0 ≡ 10) × (distance_beyond star around_three 4 0 ≡ 0)
    × (distance_beyond star around_three 4 2 ≡ 4)
known_beyond = (refl, refl, refl)

pub known_lowest : (lowest (λ t. 10 - t) 8 (1 ∷ 4 ∷ 3 ∷ []) ≡ 6) × (lowest (λ t. 10 - t) 5 (1 ∷ 4 ∷ 3 ∷ []) ≡ 5) ×
    (lowest (λ t. t) 8 [] ≡ 8)
known_lowest = (refl, refl, refl)

-- members at once, the hub at once by the first two, and the last terminal never
pub known_levels : (level star around_three 0 ≡ 0) × (level star around_three 2 ≡ 0) × (level star around_three 4 ≡ 0) ×
    (level star around_three 3 ≡ 3)
known_levels = (refl, refl, refl, refl)

-- the hub after twice the cost, or never where that is no less than the width
pub known_hub_levels : (level star last 4 ≡ 10) × (level star last 0 ≡ 11) × (level star first 4 ≡ 2) × (level star second 4 ≡ 1)
known_hub_levels = (refl, refl, refl, refl)

-- the moat is recorded at its first member
pub known_stands : surrounded (stand.Free ∷ stand.First 7 ∷ stand.Inside ∷ stand.Free ∷ stand.Free ∷ []) (3 ∷ 1 ∷ 2 ∷ []) 9
    ≡ stand.Free ∷ stand.Inside ∷ stand.Inside ∷ stand.First 9 ∷ stand.Free ∷ []
known_stands = refl

-- from a free terminal, and from none that is inside
pub known_ways : (distance_from star [] 3 4 (Some stand.Free) ≡ Some 10) × (distance_from star [] 3 4 (Some stand.Inside) ≡ None) ×
    (distance_from star [] 3 4 None ≡ None)
known_ways = (refl, refl, refl)

-- by the nearer of two free terminals, and not by the one that is inside
pub known_lowered : lowered_distance star (stand.Inside ∷ stand.Free ∷ stand.Free ∷ []) [] 4 100 (0 ∷ 2 ∷ 1 ∷ []) ≡ 2
known_lowered = refl
