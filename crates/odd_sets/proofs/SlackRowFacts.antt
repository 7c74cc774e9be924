-- Worked values of slack rows.
use Rattle.std.proofs.Common.{◌≡◌, ℕ, [], ◌∷◌, refl}
use Rattle.odd_sets.proofs.Names.{blossom_slacks, vertex_slacks, TableValue, PartValue, vertex_set}

-- 0, 1 and 2 are 2 from each other; 3 is 5 from 0, 4 from 1 and 6 from 2
abbrev four : TableValue
four = record { places = 4; cells = 0 ∷ 2 ∷ 2 ∷ 5 ∷ 0 ∷ 0 ∷ 2 ∷ 4 ∷ 0 ∷ 0 ∷ 0 ∷ 6 ∷ 0 ∷ 0 ∷ 0 ∷ 0 ∷ [] }

abbrev part : ℕ → ℕ → ℕ → PartValue
part place dual to = record { odd_set = vertex_set place four place dual; next = record { from = place; to = to } }

-- twice the distances, both ways
pub known_single : vertex_slacks four 1 ≡ 4 ∷ 400001 ∷ 4 ∷ 8 ∷ []
known_single = refl

-- of 10 less 1, 8 less 2 and 12 less 5 the second is least
pub known_blossom : blossom_slacks (part 0 1 1 ∷ part 1 2 2 ∷ part 2 5 0 ∷ []) ≡ 400001 ∷ 400001 ∷ 400001 ∷ 6 ∷ []
known_blossom = refl
