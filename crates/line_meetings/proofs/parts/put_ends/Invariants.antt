use Rattle.std.proofs.Common.{◌≡◌, ◌++◌, drop, filter}
use Rattle.line_meetings.proofs.Names.{is_line_end}
use Rattle.line_meetings.proofs.parts.put_ends.Given as goal

-- the ends so far, and those of the parts that are left, are all
abbrev pub invariant-loop-part : goal.invariant-loop-part
invariant-loop-part l = l.parts.items ++ filter is_line_end (drop l.part-index l.all) ≡ l.fn.parts.items ++ filter is_line_end l.all
