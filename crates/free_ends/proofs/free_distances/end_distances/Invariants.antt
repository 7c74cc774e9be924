use Rattle.std.proofs.Common.{◌+◌, length}
use Rattle.free_ends.proofs.TableLemmas.{HasRowsBefore}
use Rattle.free_ends.proofs.free_distances.end_distances.Given as goal

abbrev pub invariant-loop-a : goal.invariant-loop-a
invariant-loop-a l = HasRowsBefore l.rows (length l.terminals + l.free) l.a l.table
