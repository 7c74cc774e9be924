use Rattle.drawing_commands.proofs.edit_failures.describe_edit.Goals as goal

pub returns-in-SamePiece : goal.returns-in-SamePiece
returns-in-SamePiece c = rw c.in-SamePiece.is c.describe_part-in-SamePiece.ensures

pub returns-in-OtherBlock : goal.returns-in-OtherBlock
returns-in-OtherBlock c = rw c.in-OtherBlock.is c.describe_part-in-OtherBlock.ensures
