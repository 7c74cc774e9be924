-- The places that are matched with the free ends of a walk.
use Rattle.std.specs.Prelude.{ℕ, ◌+◌, ◌==◌, ◌&&◌, nat_lt, List, [], ◌∷◌, Option, Some, None, length, slice_index, if◌then◌else◌}
use Rattle.blossom_match.specs.declared.matching.Pair.{Pair}
use Rattle.free_ends.specs.declared.end_choice.WalkEnds.{WalkEnds}

-- The place that a place is matched with, or the place itself where no pair has it.
abbrev pub mate_of : ℕ → List Pair → ℕ
mate_of place [] = place
mate_of place (q ∷ rest) =
    if q.a == place then q.b else if q.b == place then q.a else mate_of place rest

-- The terminals at two places, where both are terminals.
abbrev pub ends_at_places : List ℕ → (start end : ℕ) → Option WalkEnds
ends_at_places terminals start end =
    if nat_lt start (length terminals) && nat_lt end (length terminals)
    then Some (record { start = slice_index terminals start; end = slice_index terminals end })
    else None

-- The terminals that are matched with the two places after them, where both are matched with
-- terminals.
abbrev pub ends_by : List ℕ → List Pair → Option WalkEnds
ends_by terminals pairs = ends_at_places terminals (mate_of (length terminals) pairs)
    (mate_of (length terminals + 1) pairs)
