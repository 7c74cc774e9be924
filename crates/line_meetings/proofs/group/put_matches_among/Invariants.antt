use Rattle.std.proofs.Common.{◌≡◌, ◌++◌, drop}
use Rattle.line_meetings.proofs.Names.{matching_indexes}
use Rattle.line_meetings.proofs.group.put_matches_among.Given as goal

-- the matches so far, and those of the parts that are left, are all
abbrev pub invariant-loop-part : goal.invariant-loop-part
invariant-loop-part l = l.found.items ++ matching_indexes l.query (drop l.part-index l.parts)
    ≡ l.fn.found.items ++ matching_indexes l.query l.parts
