-- Worked values of drawings that grow: what comes before the first block, and lines that may not come.
use Rattle.std.proofs.Common.{◌≡◌, pos, negsuc, true, false, [], ◌∷◌, Ok, Err, codes, replicate, refl}
use Rattle.line_graph.proofs.DrawingNames.{DrawingValue, all_in_needle_range, empty_drawing, finished_drawing, line_added, with_new_block, with_new_line, block_added}
use Rattle.line_graph.proofs.Places.{place}
use Rattle.line_graph.specs.declared.draw_kind.DrawKind.TheVariants as kind

-- a drawing of one block, which has no line yet
abbrev blank : DrawingValue
blank = empty_drawing (codes "ab") 7

abbrev begun : DrawingValue
begun = with_new_block blank 3

-- without a block there is no place for a line, whatever its points are
pub known_line_added : (line_added blank (place (pos 0) (pos 0) ∷ place (pos 5) (pos 1) ∷ []) ≡ Err kind.NoBlock)
    × (line_added blank (place (pos 30001) (pos 0) ∷ []) ≡ Err kind.NoBlock)
known_line_added = (refl, refl)

-- on each axis and to both sides 30,000 is the last place
pub known_ranges : (all_in_needle_range (place (pos 30000) (negsuc 29999) ∷ place (negsuc 29999) (pos 30000) ∷ []) ≡ true)
    × (all_in_needle_range (place (pos 0) (pos 1) ∷ place (pos 30001) (pos 2) ∷ []) ≡ false)
    × (all_in_needle_range (place (negsuc 30000) (pos 2) ∷ []) ≡ false)
    × (all_in_needle_range (place (pos 2) (pos 30001) ∷ []) ≡ false)
    × (all_in_needle_range (place (pos 2) (negsuc 30000) ∷ []) ≡ false)
known_ranges = (refl, refl, refl, refl, refl)

-- a point out of range is reported before the number of points, and the number before a repeated point
pub known_out_of_range : (line_added begun (place (pos 0) (negsuc 30000) ∷ []) ≡ Err kind.OutOfRange)
    × (line_added begun (place (pos 0) (negsuc 29999) ∷ []) ≡ Err kind.FewPoints)
    × (line_added begun (place (pos 4) (pos 2) ∷ place (pos 4) (pos 2) ∷ []) ≡ Err kind.RepeatedPoint)
    -- else the line is the last of the last block
    × (line_added begun (place (pos 4) (pos 2) ∷ place (pos 4) (negsuc 0) ∷ [])
    ≡ Ok (record {
      label = codes "ab";
      step = 7;
      threads = 3 ∷ [];
      lines = record { block = 0; points = place (pos 4) (pos 2) ∷ place (pos 4) (negsuc 0) ∷ [] } ∷ [];
      starts = [];
      ends = [];
    }))
known_out_of_range = (refl, refl, refl, refl)

-- the first line is in the first block, and the next one in the block that came last
abbrev grown : DrawingValue
grown = with_new_line (with_new_block (with_new_line begun (place (pos 4) (pos 2) ∷ [])) 8) (place (pos 6) (pos 7) ∷ [])

pub known_blocks : (grown.threads ≡ 3 ∷ 8 ∷ [])
    × (grown.lines ≡ record { block = 0; points = place (pos 4) (pos 2) ∷ [] }
    ∷ record { block = 1; points = place (pos 6) (pos 7) ∷ [] } ∷ [])
known_blocks = (refl, refl)

-- a drawing ends with a block, and with a line in its last block
pub known_ends : (finished_drawing blank ≡ Err kind.NoBlock)
    × (finished_drawing begun ≡ Err kind.EmptyBlock)
    × (finished_drawing (with_new_block (with_new_line begun (place (pos 4) (pos 2) ∷ [])) 8) ≡ Err kind.EmptyBlock)
    × (finished_drawing grown ≡ Ok grown)
known_ends = (refl, refl, refl, refl)

-- an empty block is reported before too many blocks, of which 255 are the most
abbrev full : DrawingValue
full = record (with_new_line begun (place (pos 4) (pos 2) ∷ [])) { threads = replicate 255 1 }

pub known_block_kinds : (block_added full 9 ≡ Err kind.EmptyBlock)
    × (block_added (with_new_line full (place (pos 6) (pos 7) ∷ [])) 9 ≡ Err kind.TooManyBlocks)
known_block_kinds = (refl, refl)

-- and a repeated point before there are too many lines, of which 1,024 are the most
abbrev crowded : DrawingValue
crowded = record begun { lines = replicate 1024 (record { block = 0; points = place (pos 4) (pos 2) ∷ [] }) }

pub known_line_kinds : (line_added crowded (place (pos 4) (pos 2) ∷ place (pos 4) (pos 2) ∷ []) ≡ Err kind.RepeatedPoint)
    × (line_added crowded (place (pos 4) (pos 2) ∷ place (pos 4) (pos 3) ∷ []) ≡ Err kind.TooManyLines)
known_line_kinds = (refl, refl)
