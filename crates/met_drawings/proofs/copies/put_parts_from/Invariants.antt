use Rattle.std.proofs.Common.{◌≡◌, ◌++◌, ◌∷◌, [], length}
use Rattle.met_drawings.specs.Copies.{parts_from, passed_from}
use Rattle.met_drawings.proofs.copies.put_parts_from.Given as goal

-- the segments and the lines so far, and those of the points that are left
abbrev pub invariant-loop-rest : goal.invariant-loop-rest
invariant-loop-rest l = record {
  passed : l.passed ++ passed_from l.block l.from l.rest ≡ l.fn.passed ++ passed_from l.block l.fn.first l.after;
  left : l.left.items ++ parts_from l.passed l.block l.part l.from l.rest
      ≡ l.fn.left.items ++ parts_from l.fn.passed l.block (l.fn.first ∷ []) l.fn.first l.after;
}

abbrev pub decreases-loop-rest : goal.decreases-loop-rest
decreases-loop-rest l = length l.rest
