use Rattle.std.proofs.Common.{◌≡◌, ◌≤◌, ◌-◌, ◌⊎◌}
use Rattle.cut_certificate.specs.MoatCuts.{IsLevelOf}
use Rattle.cut_certificate.proofs.Names.{AddsCuts, AreCutsTo}
use Rattle.cut_certificate.proofs.moat_cuts.add_cuts.Given as goal

-- the cuts up to a level are there
abbrev pub invariant-loop-from : goal.invariant-loop-from
invariant-loop-from l = record {
  most : l.from ≤ l.width;
  at : (l.from ≡ 0) ⊎ ((l.from ≡ l.width) ⊎ IsLevelOf l.levels l.from);
  made : AddsCuts (AreCutsTo l.levels l.from) l.fn.cuts l.cuts;
}

abbrev pub decreases-loop-from : goal.decreases-loop-from
decreases-loop-from l = l.width - l.from
