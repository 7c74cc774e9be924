use Rattle.program_shell.proofs.PutLemmas.{broke_of, puts_err}
use Rattle.program_shell.proofs.putting.put_one.Goals as goal

pub returns-in_err-put : goal.returns-in_err-put
returns-in_err-put g c = puts_err _ _ _ _ _ c.from_residual.ensures.1
    (broke_of (g.E.Sink.view c.args.err.now) (g.E.Sink.view c.put.new.self) c.args.text.now
    c.in_err-put.ensures.took c.in_err-put.ensures.cause.0)
