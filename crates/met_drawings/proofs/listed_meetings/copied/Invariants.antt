use Rattle.std.proofs.Common.{◌≡◌, ◌++◌, drop}
use Rattle.met_drawings.proofs.listed_meetings.copied.Given as goal

-- the lines so far, and those that are left
abbrev pub invariant-loop-line : goal.invariant-loop-line
invariant-loop-line l = l.copied.items ++ drop l.line-index l.lines ≡ l.lines
