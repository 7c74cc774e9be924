-- The reports of `threads`: the threads of the palette, or those of the blocks of a file, with
-- their colours.
use Rattle.std.specs.Prelude.{ℕ, zero, suc, ◌+◌, List, [], ◌∷◌, ◌++◌, codes, decimal}
use Rattle.design_model.specs.Designs.{DesignValue, thread_of}
use Rattle.design_model.specs.TextLines.{newline}
use Rattle.design_review.specs.declared.open_block.BlockSummary.{BlockSummary}
use Rattle.design_review.specs.BlockSummaries.{summaries_of_blocks}
use Rattle.picture_parts.specs.Colours.{colour_of_thread}
use Rattle.design_commands.specs.LookTexts.{block_length_text}
use Rattle.picture_parts.specs.ThreadNames.{name_of_thread}

-- A thread by its number, with its name and its colour.
abbrev pub thread_text : ℕ → List ℕ
thread_text thread = codes "thread " ++ (decimal thread ++ (codes " "
    ++ (name_of_thread thread ++ (codes " " ++ colour_of_thread thread))))

-- The line of a thread of the palette.
abbrev pub palette_line : ℕ → List ℕ
palette_line thread = thread_text thread ++ newline

-- The lines of some threads of the palette, of which the first has that number.
abbrev pub palette_lines : (thread count : ℕ) → List ℕ
palette_lines thread zero = []
palette_lines thread (suc more) = palette_line thread ++ palette_lines (thread + 1) more

-- The threads of the palette: 1 to 64.
unfoldable pub palette_report : List ℕ
palette_report = palette_lines 1 64

-- The line of a block: its thread, its needles, and the length of its thread.
abbrev pub threads_block_line : (number thread : ℕ) → BlockSummary → List ℕ
threads_block_line number thread s = (codes "block " ++ (decimal number ++ codes " "))
    ++ (thread_text thread ++ (block_length_text s ++ newline))

-- The lines of blocks, of which the first has that index.
abbrev pub threads_block_lines : DesignValue → ℕ → List BlockSummary → List ℕ
threads_block_lines d block [] = []
threads_block_lines d block (s ∷ rest) =
    threads_block_line (block + 1) (thread_of d block) s ++ threads_block_lines d (block + 1) rest

-- The threads of a design.
abbrev pub threads_report : DesignValue → List ℕ
threads_report d = threads_block_lines d 0 (summaries_of_blocks d)
