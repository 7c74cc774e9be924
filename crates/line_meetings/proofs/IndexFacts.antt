-- Worked values of parts with indexes, and what parts in another order exclude.
use Rattle.std.proofs.Common.{◌≡◌, ℕ, pos, false, [], ◌∷◌, refl, arith}
use Rattle.line_meetings.specs.declared.query.Query.TheVariants as query
use Rattle.line_meetings.specs.IndexedParts.{AreIndexed, indexed_at, indexed_from, parts_at}
use Rattle.line_meetings.specs.Parts.{segment_part}
use Rattle.line_meetings.proofs.Names.{IndexedPart, LineSegment, matching_indexes}

-- segments in a row, and a point there
abbrev part : (a b : ℕ) → LineSegment
part a b = segment_part (record { block = 2; line = 0; number = a; is_first = false; is_last = false })
    (record { x = pos a; y = pos 0 }) (record { x = pos b; y = pos 0 })

abbrev indexed : (index a b : ℕ) → IndexedPart
indexed index a b = record { index = index; part = part a b }

-- the first part has the given index, and the next ones those after it
pub known_indexed : indexed_from 4 (part 0 2 ∷ part 2 4 ∷ []) ≡ indexed 4 0 2 ∷ indexed 5 2 4 ∷ []
known_indexed = refl

-- at the second index, and beyond the last one
pub known_indexed_at : (indexed_at (part 0 2 ∷ part 2 4 ∷ []) 1 ≡ indexed 1 2 4 ∷ []) × (indexed_at (part 0 2 ∷ part 2 4 ∷ []) 2 ≡ [])
known_indexed_at = (refl, refl)

-- in the order of the indexes
pub known_parts_at : parts_at (part 0 2 ∷ part 2 4 ∷ part 4 5 ∷ []) (2 ∷ 0 ∷ 3 ∷ []) ≡ part 4 5 ∷ part 0 2 ∷ []
known_parts_at = refl

-- of three segments, those whose ends are within 4 of the point 0
pub known_matching : matching_indexes (query.Around 4 (part 0 0)) (indexed 7 0 2 ∷ indexed 3 4 5 ∷ indexed 5 2 4 ∷ []) ≡ 7 ∷ 5 ∷ []
known_matching = refl

-- the parts of a list are in any order
pub known_order : AreIndexed (part 0 2 ∷ part 2 4 ∷ []) (indexed 1 2 4 ∷ indexed 0 0 2 ∷ [])
known_order = λ f. omega arith

-- no part is left out, and none has another index
pub refuted_order : (AreIndexed (part 0 2 ∷ part 2 4 ∷ []) (indexed 0 0 2 ∷ []) → ⊥)
    × (AreIndexed (part 0 2 ∷ []) (indexed 1 0 2 ∷ []) → ⊥)
refuted_order = (λ are. omega (arith, are (λ p. 1)), λ are. omega (arith, are (λ p. p.index)))
