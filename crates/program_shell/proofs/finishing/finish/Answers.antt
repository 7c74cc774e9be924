use Rattle.program_shell.proofs.finishing.finish.Goals as goal

pub returns-in-Ok : goal.returns-in-Ok
returns-in-Ok g c = rw c.in-Ok.is c.deliver.ensures
