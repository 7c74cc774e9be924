use Rattle.std.proofs.Common.{◌≡◌, ◌++◌, drop, map, take}
use Rattle.blossom_match.proofs.Names.{changed_branch}
use Rattle.blossom_match.proofs.adjustment.change_branches.Given as goal

-- the branches changed so far, and those that are left
abbrev pub invariant-loop-i : goal.invariant-loop-i
invariant-loop-i l = l.tree ≡ map (changed_branch l.by) (take l.i l.fn.tree) ++ drop l.i l.fn.tree
