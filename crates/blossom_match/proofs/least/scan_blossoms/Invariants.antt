use Rattle.blossom_match.proofs.Names.{branches_in}
use Rattle.blossom_match.proofs.ScanLemmas.{Narrowing}
use Rattle.blossom_match.proofs.least.scan_blossoms.Given as goal

-- the least dual of the blossoms so far
abbrev pub invariant-loop-i : goal.invariant-loop-i
invariant-loop-i l = Narrowing (branches_in l.sets l.tree) l.i l.fn.best l.least
