use Rattle.picture_commands.proofs.running.make_requested.Goals as goal

pub returns-in-File : goal.returns-in-File
returns-in-File g c = λ mistake. rw c.in-File.is (c.make_picture.ensures mistake)
