use Rattle.std.proofs.Common.{drop}
use Rattle.std.specs.HashMap.{get}
use Rattle.line_meetings.specs.KnownPoints.{AreKnown, is_same_point_key}
use Rattle.line_meetings.specs.Meetings.{close_to}
use Rattle.line_meetings.proofs.TellingLemmas.{TellsFrom}
use Rattle.line_meetings.proofs.Names.{flat_map}
use Rattle.line_meetings.proofs.finding.put_all_close.Given as goal

-- the meetings so far, with those of the points that are left, tell the same as all
abbrev pub invariant-loop-p : goal.invariant-loop-p
invariant-loop-p l = record {
  known : AreKnown l.gap l.tree (get is_same_point_key l.known);
  told : TellsFrom (flat_map (close_to l.gap l.near l.tree) (drop l.p-index l.points)) l.found
      (flat_map (close_to l.gap l.near l.tree) l.points) l.fn.found;
}
