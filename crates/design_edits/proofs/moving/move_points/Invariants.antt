use Rattle.std.proofs.Common.{◌≡◌, ◌++◌, drop, take, map}
use Rattle.design_edits.proofs.Names.{motion_map, with_mapped_point}
use Rattle.design_edits.proofs.moving.move_points.Given as goal

-- the points so far are moved, and the others are as they were
abbrev pub invariant-loop-index : goal.invariant-loop-index
invariant-loop-index l =
    l.design ≡ record l.fn.design {
      commands =
          map (with_mapped_point (motion_map l.motion)) (take l.index l.fn.design.commands) ++ drop l.index l.fn.design.commands;
    }
