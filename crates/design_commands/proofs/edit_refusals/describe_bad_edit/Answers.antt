use Rattle.design_commands.proofs.edit_refusals.describe_bad_edit.Goals as goal

pub returns-in-NoPlace : goal.returns-in-NoPlace
returns-in-NoPlace c = rw c.in-NoPlace.is c.describe_no_block.ensures

pub returns-in-TooMany : goal.returns-in-TooMany
returns-in-TooMany c = rw c.in-TooMany.is c.describe_part.ensures
