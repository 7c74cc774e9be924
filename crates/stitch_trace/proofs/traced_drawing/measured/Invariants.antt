use Rattle.std.proofs.Common.{◌≡◌, ◌≤◌, drop}
use Rattle.stitch_trace.proofs.Names.{needle_moves_of, needle_moves_from, max_size_after}
use Rattle.stitch_trace.proofs.traced_drawing.measured.Given as goal

-- with the acts that are left, measuring has the specified result
abbrev pub invariant-loop-a : goal.invariant-loop-a
invariant-loop-a l = record {
  high : l.longest ≤ 2047;
  all : max_size_after l.longest (needle_moves_from l.before (drop l.a-index l.acts)) ≡ max_size_after 0 (needle_moves_of l.acts);
}
