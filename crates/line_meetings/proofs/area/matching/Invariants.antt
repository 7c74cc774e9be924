use Rattle.std.proofs.Common.{◌≡◌, ◌++◌, drop}
use Rattle.line_meetings.proofs.Names.{flat_map, matching_indexes}
use Rattle.line_meetings.proofs.area.matching.Given as goal

-- the matches so far, and those of the areas that are left, are all
abbrev pub invariant-loop-area : goal.invariant-loop-area
invariant-loop-area l = l.found.items ++ matching_indexes l.query (flat_map (λ a. a) (drop l.area-index l.areas))
    ≡ matching_indexes l.query (flat_map (λ a. a) l.areas)
