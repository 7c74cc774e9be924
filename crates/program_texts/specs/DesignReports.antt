-- The reports on a design that was read, and on one that was written.
use Rattle.std.specs.Prelude.{ℕ, ◌+◌, Bool, List, [], ◌∷◌, ◌++◌, Option, Some, None, codes, decimal, if◌then◌else◌}
use Rattle.std.specs.Fmt.{signed_decimal}
use Rattle.design_model.specs.declared.bounds.Extent.{Extent}
use Rattle.design_model.specs.declared.point.Point.{Point}
use Rattle.design_model.specs.declared.tally.Counts.{Counts}
use Rattle.design_model.specs.Blocks.{needles_of_blocks}
use Rattle.design_model.specs.Counts.{counts_of}
use Rattle.design_model.specs.Designs.{DesignValue, thread_of}
use Rattle.design_model.specs.Extents.{extent_of}
use Rattle.format_traits.specs.declared.loaded.Loaded.{Loaded}
use Rattle.design_model.specs.TextLines.{newline}

-- A label and a number.
abbrev pub labelled_number : List ℕ → ℕ → List ℕ
labelled_number word n = word ++ decimal n

-- A line of a label and a number.
abbrev pub labelled_number_line : List ℕ → ℕ → List ℕ
labelled_number_line word n = labelled_number word n ++ newline

-- The coordinates of a point.
abbrev pub coordinates_text : Point → List ℕ
coordinates_text p = signed_decimal p.x ++ (codes " " ++ signed_decimal p.y)

-- The line of the minimum and maximum coordinates of the needles.
abbrev pub extent_line : Option Extent → List ℕ
extent_line None = codes "extent none" ++ newline
extent_line (Some extent) = codes "extent " ++ (coordinates_text extent.min
    ++ (codes " " ++ (coordinates_text extent.max ++ newline)))

-- The line about the end of the file: whether it has one.
abbrev pub ended_line : Bool → List ℕ
ended_line ended = (if ended then codes "ended yes" else codes "ended no") ++ newline

-- The lines of the counts.
abbrev pub count_lines : Counts → List ℕ
count_lines counts = labelled_number_line (codes "commands ") counts.commands
    ++ (labelled_number_line (codes "needles ") counts.needles
    ++ (labelled_number_line (codes "trims ") counts.trims
    ++ labelled_number_line (codes "stops ") counts.stops))

-- The line of a block: its number, counted from 1, its thread, and its number of needles.
abbrev pub block_report_line : ℕ → ℕ → ℕ → List ℕ
block_report_line number thread needles = labelled_number (codes "block ") number
    ++ (labelled_number (codes " thread ") thread
    ++ labelled_number_line (codes " needles ") needles)

-- The lines of the blocks, the first of which has that index.
abbrev pub block_lines : DesignValue → ℕ → List ℕ → List ℕ
block_lines d place [] = []
block_lines d place (needles ∷ later) =
    block_report_line (place + 1) (thread_of d place) needles ++ block_lines d (place + 1) later

-- The lines of the format and the label.
abbrev pub title_lines : List ℕ → List ℕ → List ℕ
title_lines ending label = codes "format " ++ (ending ++ (newline
    ++ (codes "label [" ++ (label ++ (codes "]" ++ newline)))))

-- The entire report on a file, given the file name ending of its format.
abbrev pub show_report : List ℕ → Loaded → List ℕ
show_report ending loaded = title_lines ending loaded.design.label
    ++ (count_lines (counts_of loaded.design)
    ++ (extent_line (extent_of loaded.design)
    ++ (ended_line loaded.ended
    ++ block_lines loaded.design 0 (needles_of_blocks loaded.design))))

-- The report on a design that was written.
abbrev pub written_report : Counts → List ℕ
written_report counts = labelled_number (codes "needles ") counts.needles
    ++ (labelled_number (codes " trims ") counts.trims
    ++ labelled_number_line (codes " stops ") counts.stops)
