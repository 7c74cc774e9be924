use Rattle.std.proofs.Common.{◌≡◌, ◌++◌, drop}
use Rattle.design_commands.specs.LookTexts.{look_block_lines}
use Rattle.design_commands.proofs.look_texts.put_blocks.Given as goal

-- the lines so far, and those of the blocks that are left
abbrev pub invariant-loop-place : goal.invariant-loop-place
invariant-loop-place l =
    l.text ++ look_block_lines l.design l.place (drop l.place l.blocks) ≡ l.fn.text ++ look_block_lines l.design 0 l.blocks
