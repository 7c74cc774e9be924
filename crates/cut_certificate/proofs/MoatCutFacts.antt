-- Five junctions that enter at the levels 3, 0, 2, 2 and 5.
use Rattle.std.proofs.Common.{◌≡◌, ℕ, List, [], ◌∷◌, refl}
use Rattle.cut_certificate.proofs.Names.{distance_between, members_from}
use Rattle.cut_certificate.specs.MoatCuts.{levels_below}

abbrev levels : List ℕ
levels = 3 ∷ 0 ∷ 2 ∷ 2 ∷ 5 ∷ []

-- those of a limit itself are members, and the numbers count from the first of the levels
pub known_members : (members_from 0 0 levels ≡ 1 ∷ []) × (members_from 0 1 levels ≡ 1 ∷ []) × (members_from 0 2 levels ≡ 1 ∷ 2 ∷ 3 ∷ [])
    × (members_from 7 4 levels ≡ 7 ∷ 8 ∷ 9 ∷ 10 ∷ [])
known_members = (refl, refl, refl, refl)

-- levels above 0 and below the top, and none at either
pub known_below : (levels_below 0 levels ≡ 0) × (levels_below 2 levels ≡ 0) × (levels_below 3 levels ≡ 2) × (levels_below 5 levels ≡ 3)
    × (levels_below 6 levels ≡ 4)
known_below = (refl, refl, refl, refl, refl)

pub known_between : (distance_between 3 5 ≡ 2) × (distance_between 5 3 ≡ 2) × (distance_between 4 4 ≡ 0)
known_between = (refl, refl, refl)
