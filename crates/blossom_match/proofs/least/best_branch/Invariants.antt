use Rattle.std.proofs.Common.{[], take}
use Rattle.blossom_match.proofs.Names.{IsBestCandidate, outer_members, branches_in}
use Rattle.blossom_match.specs.declared.least.Kind.TheVariants as kind
use Rattle.blossom_match.proofs.least.best_branch.Given as goal

-- the nearest of the outer sets so far
abbrev pub invariant-loop-b : goal.invariant-loop-b
invariant-loop-b l = IsBestCandidate l.heights l.reach kind.Shrink (outer_members [] (take l.b-index (branches_in l.sets l.tree))) l.fn.best
    l.least
