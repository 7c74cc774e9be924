use Rattle.std.proofs.Common.{◌≡◌, length, true}
use Rattle.odd_cuts.proofs.Names.{missing_fault, MAX_LINES, all_below}
use Rattle.odd_cuts.proofs.walk_check.check_lines.Given as goal

-- the lines so far are passed
abbrev pub invariant-loop-rest : goal.invariant-loop-rest
invariant-loop-rest l = record {
  below : all_below MAX_LINES l.rest ≡ true;
  missing : missing_fault l.rest l.walk ≡ missing_fault l.lines l.walk;
}

abbrev pub decreases-loop-rest : goal.decreases-loop-rest
decreases-loop-rest l = length l.rest
