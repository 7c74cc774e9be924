use Rattle.std.proofs.Common.{◌<◌, ◌+◌, ◌^◌, All, List, ℕ, length}
use Rattle.route_core.proofs.Names.{AddsCopies, total_copies}
use Rattle.route_core.proofs.copies.add_places.Given as goal

-- what adds the places that are left has added all of them
abbrev pub invariant-loop-k : goal.invariant-loop-k
invariant-loop-k l = record {
  there : All (λ k. k < length l.copies.items) l.rest;
  few : total_copies l.copies.items + length l.rest < 2 ^ 32;
  whole : (new : List ℕ) → AddsCopies l.copies.items l.rest new → AddsCopies l.fn.copies.items l.places new;
}

abbrev pub decreases-loop-k : goal.decreases-loop-k
decreases-loop-k l = length l.rest
