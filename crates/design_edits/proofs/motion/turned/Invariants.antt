use Rattle.std.proofs.Common.{◌≡◌, IsTrue}
use Rattle.design_edits.proofs.Names.{is_point_within, turn_point}
use Rattle.design_model.specs.declared.point.TheConstants.{JUMP_LIMIT}
use Rattle.design_edits.proofs.motion.turned.Given as goal

-- the quarters so far
abbrev pub invariant-loop : goal.invariant-loop
invariant-loop l = record {
  turned : l.turned ≡ turn_point l.counter l.fn.point;
  within : IsTrue (is_point_within JUMP_LIMIT l.turned);
}
