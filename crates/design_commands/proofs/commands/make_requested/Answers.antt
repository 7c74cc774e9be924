use Rattle.design_commands.proofs.commands.make_requested.Goals as goal

pub returns-in-Look : goal.returns-in-Look
returns-in-Look g c = λ mistake. rw c.in-Look.is (c.make_look.ensures mistake)

pub returns-in-Pass : goal.returns-in-Pass
returns-in-Pass g c = λ mistake. rw c.in-Pass.is (c.make_pass.ensures mistake)

pub returns-in-Edit : goal.returns-in-Edit
returns-in-Edit g c = λ mistake. rw c.in-Edit.is (c.make_edit.ensures mistake)

pub returns-in-Compare : goal.returns-in-Compare
returns-in-Compare g c = λ mistake. rw c.in-Compare.is (c.make_comparison.ensures mistake)

pub returns-in-Threads : goal.returns-in-Threads
returns-in-Threads g c = λ mistake. rw c.in-Threads.is (c.make_list.ensures mistake)
