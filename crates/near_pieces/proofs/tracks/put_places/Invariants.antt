use Rattle.std.proofs.Common.{◌≡◌, ◌++◌, take}
use Rattle.near_pieces.specs.Stops.{places}
use Rattle.near_pieces.proofs.tracks.put_places.Given as goal

-- The places of the stops so far are added.
abbrev pub invariant-loop-stop : goal.invariant-loop-stop
invariant-loop-stop l = l.order ≡ l.fn.order ++ places (take l.stop-index l.stops)
