use Rattle.std.proofs.Common.{◌≡◌, IsTrue, length}
use Rattle.design_rewrites.proofs.Names.{acts_without_numbers}
use Rattle.design_rewrites.specs.WrittenActs.{AreActsInRange, design_after_acts}
use Rattle.design_rewrites.proofs.rewriting.put_each.Given as goal

-- the design so far, with the edited acts of those that are left, is the design with all edited acts
abbrev pub invariant-loop-rest : goal.invariant-loop-rest
invariant-loop-rest g l = record {
  sound : IsTrue (g.E.ActEdit.is_sound l.edit);
  acts : AreActsInRange l.rest;
  written : design_after_acts l.fn.out (g.E.ActEdit.edited l.fn.edit (acts_without_numbers l.acts))
      ≡ design_after_acts l.out (g.E.ActEdit.edited l.edit (acts_without_numbers l.rest));
}

abbrev pub decreases-loop-rest : goal.decreases-loop-rest
decreases-loop-rest g l = length l.rest
