use Rattle.std.proofs.Common.{◌≡◌, ◌++◌, drop}
use Rattle.line_meetings.proofs.Names.{flat_map, matching_indexes}
use Rattle.line_meetings.proofs.area.put_matches_in.Given as goal

-- the matches so far, and those of the regions that are left, are all
abbrev pub invariant-loop-region : goal.invariant-loop-region
invariant-loop-region l = l.found.items ++ matching_indexes l.query (flat_map (λ r. r) (drop l.region-index l.regions))
    ≡ l.fn.found.items ++ matching_indexes l.query (flat_map (λ r. r) l.regions)
