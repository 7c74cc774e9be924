use Rattle.std.proofs.Common.{◌≡◌, ◌≤◌, ◌+◌, ◌-◌, drop, length}
use Rattle.near_pieces.proofs.Names.{travel_in}
use Rattle.near_pieces.specs.Stops.{needle_through, places}
use Rattle.near_pieces.proofs.least_travel.along.Given as goal

-- The travel so far is no more than the true one, and the needle is where it is then.
abbrev pub invariant-loop-index : goal.invariant-loop-index
invariant-loop-index l = record {
  through : needle_through l.visits l.now.from (places (drop l.index l.stops)) ≡ needle_through l.visits l.fn.at.from (places l.stops);
  least : l.now.travel + travel_in l.visits l.now.from (places (drop l.index l.stops))
      ≤ l.fn.at.travel + travel_in l.visits l.fn.at.from (places l.stops);
}

abbrev pub decreases-loop-index : goal.decreases-loop-index
decreases-loop-index l = length l.stops - l.index
