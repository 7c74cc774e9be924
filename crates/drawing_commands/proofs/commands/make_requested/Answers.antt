use Rattle.drawing_commands.proofs.commands.make_requested.Goals as goal

pub returns-in-Look : goal.returns-in-Look
returns-in-Look g c = λ mistake. rw c.in-Look.is c.look.ensures

pub returns-in-Snap : goal.returns-in-Snap
returns-in-Snap g c = λ mistake. rw c.in-Snap.is c.write_text.ensures

pub returns-in-Cross : goal.returns-in-Cross
returns-in-Cross g c = λ mistake. rw c.in-Cross.is c.write_text-in-Cross.ensures

pub returns-in-Space : goal.returns-in-Space
returns-in-Space g c = λ mistake. rw c.in-Space.is c.write_text-in-Space.ensures

pub returns-in-Free : goal.returns-in-Free
returns-in-Free g c = λ mistake. rw c.in-Free.is c.write_text-in-Free.ensures

pub returns-in-Near : goal.returns-in-Near
returns-in-Near g c = λ mistake. rw c.in-Near.is c.write_text-in-Near.ensures

pub returns-in-Edit : goal.returns-in-Edit
returns-in-Edit g c = λ mistake. rw c.in-Edit.is c.write_text-in-Edit.ensures
