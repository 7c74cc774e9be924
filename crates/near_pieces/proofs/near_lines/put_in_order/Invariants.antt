use Rattle.std.proofs.Common.{◌≡◌, length}
use Rattle.near_pieces.proofs.Names.{run_put}
use Rattle.near_pieces.proofs.near_lines.put_in_order.Given as goal

-- The pieces so far are put, and then the others.
abbrev pub invariant-loop-rest : goal.invariant-loop-rest
invariant-loop-rest l = run_put l.lines l.run l.rest l.near ≡ run_put l.lines l.run l.fn.order l.fn.near

abbrev pub decreases-loop-rest : goal.decreases-loop-rest
decreases-loop-rest l = length l.rest
