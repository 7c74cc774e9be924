use Rattle.std.proofs.Common.{◌≡◌, ◌≤◌, ◌+◌, drop, length, map}
use Rattle.step_splitter.proofs.Names.{MAX_COMMANDS}
use Rattle.design_model.specs.declared.command.Command.TheVariants as command
use Rattle.design_model.specs.LongerDesigns.{with_commands}
use Rattle.step_splitter.proofs.refit_state.put_stitches.Given as goal

-- the stitches so far, and those at the points that are left
abbrev pub invariant-loop-point : goal.invariant-loop-point
invariant-loop-point l = record {
  count : length l.out.commands ≡ length l.fn.out.commands + l.point-index;
  room : length l.out.commands ≤ MAX_COMMANDS;
  stitches : with_commands l.out (map command.Stitch (drop l.point-index l.points))
      ≡ with_commands l.fn.out (map command.Stitch l.points);
}
