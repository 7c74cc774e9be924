use Rattle.picture_commands.proofs.running.make.Goals as goal

pub returns-in-Ok : goal.returns-in-Ok
returns-in-Ok g c = λ mistake. rw c.in-Ok.ensures.ok (c.make_requested.ensures mistake)
