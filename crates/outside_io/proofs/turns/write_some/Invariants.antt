use Rattle.outside_io.proofs.Names.{Keeps}
use Rattle.outside_io.proofs.turns.write_some.Given as goal

-- The bytes of the writer are unchanged.
abbrev pub invariant-loop : goal.invariant-loop
invariant-loop g l = Keeps (g.W.Write.contents l.fn.writer) (g.W.Write.contents l.writer)
