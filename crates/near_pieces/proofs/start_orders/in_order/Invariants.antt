use Rattle.std.proofs.Common.{◌≡◌, length, map}
use Rattle.near_pieces.proofs.Names.{Spot, are_in_order, rises_from}
use Rattle.near_pieces.proofs.start_orders.in_order.Given as goal

-- The spots so far are in order.
abbrev pub invariant-loop-rest : goal.invariant-loop-rest
invariant-loop-rest l = rises_from l.block (map (λ (spot : Spot). spot.block) l.rest) ≡ are_in_order l.fn.spots

abbrev pub decreases-loop-rest : goal.decreases-loop-rest
decreases-loop-rest l = length l.rest
