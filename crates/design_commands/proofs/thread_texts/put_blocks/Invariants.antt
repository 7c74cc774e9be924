use Rattle.std.proofs.Common.{◌≡◌, ◌++◌, drop}
use Rattle.design_commands.specs.ThreadTexts.{threads_block_lines}
use Rattle.design_commands.proofs.thread_texts.put_blocks.Given as goal

-- the lines so far, and those of the blocks that are left
abbrev pub invariant-loop-place : goal.invariant-loop-place
invariant-loop-place l =
    l.text ++ threads_block_lines l.design l.place (drop l.place l.blocks) ≡ l.fn.text ++ threads_block_lines l.design 0 l.blocks
