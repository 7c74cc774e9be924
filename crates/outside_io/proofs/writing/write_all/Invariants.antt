use Rattle.std.proofs.Common.{length}
use Rattle.outside_io.proofs.Names.{AddsPrefix}
use Rattle.outside_io.proofs.writing.write_all.Given as goal

-- what is gone from the rest was added
abbrev pub invariant-loop-rest : goal.invariant-loop-rest
invariant-loop-rest g l = AddsPrefix (g.W.Write.contents l.fn.writer) (g.W.Write.contents l.writer) l.bytes l.rest

abbrev pub decreases-loop-rest : goal.decreases-loop-rest
decreases-loop-rest g l = length l.rest
