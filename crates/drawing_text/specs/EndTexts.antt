-- The canonical text of a drawing with starts and ends, in version 3. After the lines of a block
-- come its starts, and then its ends. The lines are printed as they are drawn.
use Rattle.std.specs.Prelude.{ℕ, ◌+◌, ◌==◌, ◌&&◌, List, [], ◌∷◌, ◌++◌, codes, filter, length, if◌then◌else◌}
use Rattle.std.specs.List.{flat_map}
use Rattle.line_graph.specs.Drawings.{DrawingValue}
use Rattle.line_sections.specs.declared.spot.Spot.{Spot}
use Rattle.drawing_text.specs.declared.version.Version.TheVariants as version
use Rattle.drawing_text.specs.CanonicalTexts.{block_text, canonical_text2, header_text, label_text, number_line_text, spaced_point_text}

-- The text line of a start or an end, by its keyword.
abbrev pub end_line_text : List ℕ → Spot → List ℕ
end_line_text word spot = word ++ (spaced_point_text spot.at ++ 10 ∷ [])

-- The text lines of those starts or ends that are in the block, by their keyword.
abbrev pub end_lines_text : List ℕ → ℕ → List Spot → List ℕ
end_lines_text word block spots =
    flat_map (end_line_text word) (filter (λ spot. spot.block == block) spots)

-- The text of a block: its thread, its lines, its starts and its ends.
abbrev pub block_text3 : ℕ → ℕ → DrawingValue → List ℕ
block_text3 block thread d = block_text block thread d.lines
    ++ (end_lines_text (codes "start") block d.starts ++ end_lines_text (codes "end") block d.ends)

-- The text of blocks with the given threads, from the given block on.
abbrev pub blocks_text3 : ℕ → List ℕ → DrawingValue → List ℕ
blocks_text3 block [] d = []
blocks_text3 block (thread ∷ rest) d = block_text3 block thread d ++ blocks_text3 (block + 1) rest d

-- The canonical text of a drawing in version 3.
abbrev pub canonical_text3 : DrawingValue → List ℕ
canonical_text3 d = header_text version.Three ++ (10 ∷ (label_text d.label
    ++ (number_line_text (codes "step ") d.step ++ blocks_text3 0 d.threads d)))

-- The canonical text of drawn lines with their starts and ends: version 3 where there are any, else
-- version 2.
abbrev pub drawn_text : DrawingValue → List ℕ
drawn_text d = if length d.starts == 0 && length d.ends == 0 then canonical_text2 d
    else canonical_text3 d

-- A drawing with the starts and ends of another one.
abbrev pub with_ends_of : (d other : DrawingValue) → DrawingValue
with_ends_of d other = record d { starts = other.starts; ends = other.ends }
