use Rattle.std.proofs.Common.{◌≡◌, length, map}
use Rattle.near_pieces.proofs.Names.{LineValue, rises_from}
use Rattle.near_pieces.proofs.drawn_whole.are_ordered.Given as goal

-- The lines so far are in order.
abbrev pub invariant-loop-rest : goal.invariant-loop-rest
invariant-loop-rest l = rises_from l.block (map (λ (line : LineValue). line.block) l.rest)
    ≡ rises_from 0 (map (λ (line : LineValue). line.block) l.fn.lines)

abbrev pub decreases-loop-rest : goal.decreases-loop-rest
decreases-loop-rest l = length l.rest
