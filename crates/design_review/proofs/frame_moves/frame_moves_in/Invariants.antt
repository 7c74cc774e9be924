use Rattle.std.proofs.Common.{◌≡◌, ◌++◌, drop}
use Rattle.design_model.specs.Points.{origin}
use Rattle.design_review.specs.FrameMoves.{frame_moves_from}
use Rattle.design_review.proofs.frame_moves.frame_moves_in.Given as goal

-- the moves so far, and those at the stops of the commands that are left
abbrev pub invariant-loop-command : goal.invariant-loop-command
invariant-loop-command l = l.moves ++ frame_moves_from l.needle l.frame (drop l.command-index l.commands)
    ≡ frame_moves_from origin origin l.commands
