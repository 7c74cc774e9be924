use Rattle.std.proofs.Common.{◌++◌, drop, map}
use Rattle.program_shell.proofs.Names.{concat}
use Rattle.program_shell.proofs.PutLemmas.{PutsOn}
use Rattle.program_shell.proofs.putting.put_all.Given as goal

-- once the line and the parts that are left are put, all are
abbrev pub invariant-loop-part : goal.invariant-loop-part
invariant-loop-part g l = PutsOn (concat (map (λ part. part.now) l.parts))
    (l.line.items ++ concat (map (λ part. part.now) (drop l.part-index l.parts)))
    (g.E.Sink.view l.fn.err) (g.E.Sink.view l.err)
