-- The lines of a drawing as paths in the colours of their threads. A path is straight from each
-- point of its line to the next.
use Rattle.std.specs.Prelude.{ℕ, List, [], ◌∷◌, ◌++◌, codes, slice_get, unwrap_or}
use Rattle.std.specs.List.{flat_map}
use Rattle.design_model.specs.declared.point.Point.{Point}
use Rattle.line_sections.specs.Lines.{LineValue}
use Rattle.picture_parts.specs.Colours.{colour_of_thread}
use Rattle.picture_parts.specs.Paths.{coloured_path, move_text, path_end, straight_text}

-- The path through points: it begins at the first, and a straight stitch leads to each other.
abbrev pub path_text : List Point → List ℕ
path_text [] = []
path_text (p ∷ rest) = move_text p ++ flat_map straight_text rest

-- The colour of a block.
abbrev pub block_colour : List ℕ → ℕ → List ℕ
block_colour threads block = colour_of_thread (unwrap_or (slice_get threads block) 0)

-- A line, where the blocks have those threads.
abbrev pub line_path : List ℕ → LineValue → List ℕ
line_path threads line = coloured_path (codes "thread") (block_colour threads line.block)
    ++ (path_text line.points ++ path_end)

-- Lines in order.
abbrev pub line_paths : List ℕ → List LineValue → List ℕ
line_paths threads lines = flat_map (line_path threads) lines
