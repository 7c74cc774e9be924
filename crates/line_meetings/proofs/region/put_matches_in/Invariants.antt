use Rattle.std.proofs.Common.{◌≡◌, ◌++◌, drop}
use Rattle.line_meetings.proofs.Names.{flat_map, matching_indexes}
use Rattle.line_meetings.proofs.region.put_matches_in.Given as goal

-- the matches so far, and those of the groups that are left, are all
abbrev pub invariant-loop-group : goal.invariant-loop-group
invariant-loop-group l = l.found.items ++ matching_indexes l.query (flat_map (λ g. g) (drop l.group-index l.groups))
    ≡ l.fn.found.items ++ matching_indexes l.query (flat_map (λ g. g) l.groups)
