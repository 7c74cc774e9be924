-- The exit codes of processes, by the status with which a program ends.
use Rattle.std.specs.Prelude.{◌≡◌, ℕ, ◌⊎◌}
use Rattle.program_shell.specs.declared.status.Status.{Status}
use Rattle.program_shell.specs.declared.status.Status.TheVariants as status

-- The exit code of a status.
abbrev pub exit_number : Status → ℕ
exit_number status.Done = 0
exit_number status.Refused = 1
exit_number status.Usage = 2
exit_number status.Fault = 3
exit_number status.Memory = 4

-- The status of a program that has no memory before its run begins: `Memory`, or `Fault` where the
-- line about it can't be printed.
abbrev pub IsEndWithoutMemory : Status → Type 0
IsEndWithoutMemory ended = (ended ≡ status.Memory) ⊎ (ended ≡ status.Fault)
