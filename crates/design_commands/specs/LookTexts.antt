-- The report of `look`: the size, where the design begins, a line for each block, a line for each
-- place, and their number. Lengths are in tenths of a millimetre, rounded down.
use Rattle.std.specs.Prelude.{ℕ, neg_ℤ, ◌+◌, ◌/◌, List, [], ◌∷◌, ◌++◌, Option, Some, None, codes, decimal, length, unwrap_or}
use Rattle.std.specs.Fmt.{signed_decimal}
use Rattle.design_model.specs.declared.bounds.Extent.{Extent}
use Rattle.design_model.specs.Designs.{DesignValue, thread_of}
use Rattle.design_model.specs.Extents.{extent_height, extent_of, extent_width}
use Rattle.design_model.specs.TextLines.{newline}
use Rattle.design_review.specs.declared.limits.ReviewLimits.{ReviewLimits}
use Rattle.design_review.specs.declared.open_block.BlockSummary.{BlockSummary}
use Rattle.design_review.specs.BlockSummaries.{summaries_of_blocks}
use Rattle.design_review.specs.Places.{places_of}
use Rattle.design_commands.specs.PlaceTexts.{design_place_lines}
use Rattle.picture_parts.specs.ThreadNames.{name_of_thread}

-- The line of the size: the width and the height of the needles, 0 where there is none.
abbrev pub size_line : Option Extent → List ℕ
size_line extent = codes "size " ++ (decimal (extent_width extent)
    ++ (codes " " ++ (decimal (extent_height extent) ++ newline)))

-- The line of the origin: where the frame begins, from the left and the upper side of the needles.
abbrev pub origin_line : Option Extent → List ℕ
origin_line None = codes "origin 0 0" ++ newline
origin_line (Some extent) = codes "origin " ++ (signed_decimal (neg_ℤ extent.min.x)
    ++ (codes " " ++ (signed_decimal (neg_ℤ extent.min.y) ++ newline)))

-- A block and its thread, by their numbers.
abbrev pub block_thread_text : (number thread : ℕ) → List ℕ
block_thread_text number thread = codes "block " ++ (decimal number
    ++ (codes " thread " ++ (decimal thread ++ (codes " " ++ name_of_thread thread))))

-- The needles of a block, and the length of its thread.
abbrev pub block_length_text : BlockSummary → List ℕ
block_length_text s = codes " needles " ++ (decimal s.needles
    ++ (codes " length " ++ decimal (s.length / 100)))

-- The shortest and the longest stitch of a block, 0 without one, and the end of the line.
abbrev pub block_stitches_text : BlockSummary → List ℕ
block_stitches_text s = codes " shortest " ++ (decimal (unwrap_or s.shortest 0 / 100)
    ++ (codes " longest " ++ (decimal (s.longest / 100) ++ newline)))

-- The line of a block.
abbrev pub look_block_line : (number thread : ℕ) → BlockSummary → List ℕ
look_block_line number thread s =
    block_thread_text number thread ++ (block_length_text s ++ block_stitches_text s)

-- The lines of blocks, of which the first has that index.
abbrev pub look_block_lines : DesignValue → ℕ → List BlockSummary → List ℕ
look_block_lines d block [] = []
look_block_lines d block (s ∷ rest) = look_block_line (block + 1) (thread_of d block) s
    ++ look_block_lines d (block + 1) rest

-- The line of the number of places.
abbrev pub places_line : ℕ → List ℕ
places_line count = codes "places " ++ (decimal count ++ newline)

-- The report of `look`.
abbrev pub design_look_report : ReviewLimits → DesignValue → List ℕ
design_look_report limits d = size_line (extent_of d) ++ (origin_line (extent_of d)
    ++ (look_block_lines d 0 (summaries_of_blocks d)
    ++ (design_place_lines (places_of limits d) ++ places_line (length (places_of limits d)))))
