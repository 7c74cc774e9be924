use Rattle.std.proofs.Common.{◌≡◌, drop, map, string_bytes}
use Rattle.task_runs.specs.NameLists.{is_listed}
use Rattle.task_runs.proofs.names.is_listed.Given as goal

-- the names that are left decide
abbrev pub invariant-loop-other : goal.invariant-loop-other
invariant-loop-other l = is_listed (map string_bytes (drop l.other-index l.names)) l.name ≡ is_listed (map string_bytes l.names) l.name
