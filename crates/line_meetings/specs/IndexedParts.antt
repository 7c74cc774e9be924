-- Parts with their indexes in a list. In another order the indexes determine where each part
-- belongs.
use Rattle.std.specs.Prelude.{◌≡◌, ℕ, ◌+◌, List, [], ◌∷◌, drop, filter, map, sum_by, take}
use Rattle.std.specs.List.{flat_map}
use Rattle.drawing_review.specs.declared.segment.LineSegment.{LineSegment}
use Rattle.line_meetings.specs.declared.indexed_part.IndexedPart.{IndexedPart}
use Rattle.line_meetings.specs.declared.query.Query.{Query}
use Rattle.line_meetings.specs.Queries.{answers_query}

-- The parts of a list with their indexes, where the first one has the given index.
abbrev pub indexed_from : ℕ → List LineSegment → List IndexedPart
indexed_from index [] = []
indexed_from index (s ∷ rest) =
    record { index = index; part = s } ∷ indexed_from (index + 1) rest

-- The part with an index in a list, or none.
abbrev pub indexed_at : List LineSegment → ℕ → List IndexedPart
indexed_at parts index = map (λ s. record { index = index; part = s }) (take 1 (drop index parts))

-- Parts with indexes are those of a list, in any order: sums over them are the same.
abbrev pub AreIndexed : (parts : List LineSegment) → (some : List IndexedPart) → Type 0
AreIndexed parts some =
    (f : IndexedPart → ℕ) → sum_by f some ≡ sum_by f (indexed_from 0 parts)

-- The indexes of the parts that a question is about.
abbrev pub matching_indexes : Query → List IndexedPart → List ℕ
matching_indexes q some = map (λ p. p.index) (filter (λ p. answers_query q p.part) some)

-- The parts of a list with given indexes.
abbrev pub parts_at : List LineSegment → List ℕ → List LineSegment
parts_at parts indexes = flat_map (λ i. take 1 (drop i parts)) indexes
