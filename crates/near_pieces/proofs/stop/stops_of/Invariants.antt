use Rattle.std.proofs.Common.{◌≡◌, ◌≤◌, ◌*◌, ◌^◌, ◌+◌, ◌-◌, ◌++◌, drop, length}
use Rattle.near_pieces.specs.Stops.{stops_in}
use Rattle.near_pieces.proofs.stop.stops_of.Given as goal

-- The stops so far, and then the others, are those of the order.
abbrev pub invariant-loop-index : goal.invariant-loop-index
invariant-loop-index l = record {
  whole : l.stops ++ stops_in l.visits l.at.from l.at.travel (drop l.index l.order) ≡ stops_in l.visits l.fn.from 0 l.order;
  small : l.at.travel + (length l.order - l.index) * 2 ^ 64 ≤ 1024 * 2 ^ 64;
}

abbrev pub decreases-loop-index : goal.decreases-loop-index
decreases-loop-index l = length l.order - l.index
