-- Changes of an order of places: two runs that follow each other are exchanged, so that one of them
-- is moved past the other, or one run is reversed.
use Rattle.std.specs.Prelude.{◌≡◌, ℕ, ◌+◌, ◌≤◌, List, ◌++◌, Option, length, nat_le, reverse, if◌then◌else◌}
use Rattle.design_model.specs.declared.point.Point.{Point}
use Rattle.near_pieces.specs.declared.local_search.TheConstants.{MAX_CHANGED, MAX_WHOLE}
use Rattle.near_pieces.specs.declared.visit.Visit.{Visit}
use Rattle.near_pieces.specs.Visits.{travel_in}

-- In an order of so many places, a change is about at most so many that follow each other.
abbrev pub most_changed : ℕ → ℕ
most_changed count = if nat_le count MAX_WHOLE then count else MAX_CHANGED

-- No change makes the travel less: to move a run of places past another run, or to reverse a run.
pub record IsSettled (visits : List Visit) (from : Option Point) (order : List ℕ) : Type 0 where
  pub moved : (before run other after : List ℕ) → order ≡ before ++ (run ++ (other ++ after))
      → length run + length other ≤ most_changed (length order)
      → travel_in visits from order ≤ travel_in visits from (before ++ (other ++ (run ++ after)))
  pub reversed : (before run after : List ℕ) → order ≡ before ++ (run ++ after)
      → length run ≤ most_changed (length order)
      → travel_in visits from order ≤ travel_in visits from (before ++ (reverse run ++ after))
