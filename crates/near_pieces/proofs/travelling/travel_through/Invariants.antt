use Rattle.std.proofs.Common.{◌≡◌, ◌<◌, ◌≤◌, ◌*◌, ◌^◌, ◌+◌, All, length}
use Rattle.near_pieces.specs.Visits.{travel_in}
use Rattle.near_pieces.proofs.travelling.travel_through.Given as goal

-- The travel so far and that through the places that are left.
abbrev pub invariant-loop-rest : goal.invariant-loop-rest
invariant-loop-rest l = record {
  whole : l.travel + travel_in l.visits l.from l.rest ≡ travel_in l.visits l.fn.start l.fn.order;
  inside : All (λ i. i < length l.visits) l.rest;
  small : l.travel + length l.rest * 2 ^ 64 ≤ length l.fn.order * 2 ^ 64;
}

abbrev pub decreases-loop-rest : goal.decreases-loop-rest
decreases-loop-rest l = length l.rest
