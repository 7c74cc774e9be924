use Rattle.std.proofs.Common.{drop}
use Rattle.line_meetings.specs.Meetings.{touches}
use Rattle.line_meetings.proofs.TellingLemmas.{TellsFrom}
use Rattle.line_meetings.proofs.Names.{flat_map}
use Rattle.line_meetings.proofs.finding.put_all_touches.Given as goal

-- the meetings so far, with those of the segments that are left, tell the same as all
abbrev pub invariant-loop-s : goal.invariant-loop-s
invariant-loop-s l = TellsFrom (flat_map (touches l.tree) (drop l.s-index l.segments)) l.found
    (flat_map (touches l.tree) l.segments) l.fn.found
