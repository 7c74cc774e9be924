-- The picture of a design: a text of SVG 1.1, the standard of the World Wide Web Consortium. The
-- unit is a tenth of a millimetre, and the picture is shown in true size, or fits another one.
use Rattle.std.specs.Prelude.{ℕ, ◌+◌, ◌*◌, ◌==◌, List, [], ◌∷◌, ◌++◌, Option, Some, None, codes, if◌then◌else◌}
use Rattle.design_model.specs.declared.bounds.Extent.{Extent}
use Rattle.design_model.specs.declared.point.Point.{Point}
use Rattle.design_model.specs.Counts.{counts_of}
use Rattle.design_model.specs.Designs.{DesignValue, thread_of}
use Rattle.design_model.specs.Extents.{extent_of, extent_height, extent_width}
use Rattle.design_picture.specs.declared.hoop.Hoop.{Hoop}
use Rattle.design_picture.specs.declared.layers.Layer.TheVariants as layer
use Rattle.design_picture.specs.declared.layout.Area.{Area}
use Rattle.design_picture.specs.declared.pen.Pen.{Pen}
use Rattle.design_picture.specs.declared.strokes.Stroke.{Stroke}
use Rattle.design_picture.specs.Captions.{block_line, caption, group_end}
use Rattle.design_picture.specs.Crowds.{crowds_text}
use Rattle.design_picture.specs.Hoops.{hoop_as_fits, hoop_key, hoop_text, rim_of}
use Rattle.design_picture.specs.Layers.{layer_text, path_layer}
use Rattle.design_picture.specs.Layouts.{area_of, below_head, corners, top_text}
use Rattle.design_picture.specs.Strokes.{block_end, pen_of, strokes_of}
use Rattle.hoop_check.specs.declared.fitting.Fit.{Fit}
use Rattle.hoop_check.specs.declared.fitting.Fit.TheVariants as fit
use Rattle.hoop_check.specs.Fits.{fit_of}
use Rattle.picture_parts.specs.declared.marks.Mark.TheVariants as mark
use Rattle.picture_parts.specs.declared.sizes.PictureSize.{PictureSize}
use Rattle.picture_parts.specs.AgainColours.{again_colour_of}
use Rattle.picture_parts.specs.Colours.{colour_of_thread}
use Rattle.picture_parts.specs.Marks.{mark_text}
use Rattle.picture_parts.specs.Parts.{ended, filled, mm_text, point_text}
use Rattle.picture_parts.specs.Paths.{coloured_path, path_end}
use Rattle.picture_parts.specs.Sheets.{foot_text}

-- What the picture of a design shows, in words.
abbrev pub design_words : List ℕ
design_words = codes "Each thread is sewn from its triangle to its square, along the arrows. A "
    ++ codes "stitch that is sewn again is drawn beside the first."

-- The text before the shapes of the picture of a design.
abbrev pub design_top : DesignValue → Area → List ℕ
design_top d area = top_text area d.label design_words

-- The origin, a cross in a circle, and the middle of what is sewn, a square on its corner.
unfoldable pub middle_mark : Point → ℕ → ℕ → List ℕ
middle_mark corner width height = filled (codes "<path class='line' d='M-12,0h24M0,-12v24M-7,0"
    ++ (codes "a7,7,0,1,0,14,0a7,7,0,1,0,-14,0'>" ++ (codes "<title>origin</title></path>"
    ++ (10 ∷ codes "<path class='line' d='M@m@,@m-9,0l9,-9l9,9l-9,9z'>"
    ++ ended (codes "<title>middle</title></path>")))))
    (point_text corner ∷ mm_text (width * 5) ∷ mm_text (height * 5) ∷ [])

-- The hoop that is shown, or one without a size.
abbrev pub shown_hoop : DesignValue → Option Hoop → Hoop
shown_hoop d (Some hoop) = hoop_as_fits hoop (fit_of d hoop.width hoop.height)
shown_hoop d None = record { width = 0; height = 0 }

-- The outline of the hoop, if there is one.
abbrev pub hoop_if_given : DesignValue → Option Hoop → List ℕ
hoop_if_given d (Some hoop) = hoop_text (corners (extent_of d)) (shown_hoop d (Some hoop))
    (fit_of d hoop.width hoop.height)
hoop_if_given d None = []

-- The origin, the middle and the hoop.
unfoldable pub framed_text : DesignValue → Option Hoop → List ℕ
framed_text d hoop = middle_mark (corners (extent_of d)).min (extent_width (extent_of d))
    (extent_height (extent_of d)) ++ hoop_if_given d hoop

-- The key's lines of a hoop.
abbrev pub hoop_lines : Option Hoop → ℕ
hoop_lines (Some hoop) = 1
hoop_lines None = 0

-- The area of a design: its legend has a line for each block, and one for a hoop.
abbrev pub design_area : DesignValue → Option Hoop → Option PictureSize → Pen → Area
design_area d hoop size pen =
    area_of (extent_of d) (shown_hoop d hoop) (pen.stops + 1 + hoop_lines hoop) size

-- The thread of all blocks of a design.
abbrev pub thread_paths : DesignValue → List Stroke → List ℕ
thread_paths d strokes = coloured_path (codes "thread") (colour_of_thread (thread_of d 0))
    ++ (layer_text layer.Threads strokes ++ path_end)

-- The loose ways of a design, and the thread of all blocks.
unfoldable pub threads_text : DesignValue → List Stroke → List ℕ
threads_text d strokes = layer_text layer.Travels strokes ++ thread_paths d strokes

-- What is sewn again, in dashes of a colour away from the thread's.
unfoldable pub seconds_text : DesignValue → List Stroke → List ℕ
seconds_text d strokes = coloured_path (codes "again") (again_colour_of (thread_of d 0))
    ++ (layer_text layer.Seconds strokes ++ path_end)

-- The stitches outside a hoop that a design doesn't fit.
abbrev pub outside_layer : Extent → Hoop → Fit → List Stroke → List ℕ
outside_layer extent hoop fit.Upright strokes = []
outside_layer extent hoop fit.Turned strokes = []
outside_layer extent hoop (fit.No over_x over_y) strokes =
    path_layer (codes "outside") (layer.Outside (rim_of extent hoop)) strokes

-- The stitches outside the hoop, if there is one.
abbrev pub outside_if_given : DesignValue → Option Hoop → List Stroke → List ℕ
outside_if_given d (Some hoop) strokes = outside_layer (corners (extent_of d)) hoop
    (fit_of d hoop.width hoop.height) strokes
outside_if_given d None strokes = []

-- The key's line of the hoop, if there is one.
abbrev pub hoop_key_if_given : DesignValue → Option Hoop → Pen → List ℕ
hoop_key_if_given d (Some hoop) pen =
    hoop_key (pen.stops + 1) hoop (fit_of d hoop.width hoop.height)
hoop_key_if_given d None pen = []

-- The thread, what is sewn again, and what lies outside the hoop.
unfoldable pub sewn_text_of : DesignValue → Option Hoop → List Stroke → List ℕ
sewn_text_of d hoop strokes = threads_text d strokes
    ++ (seconds_text d strokes ++ outside_if_given d hoop strokes)

-- The mark where the last thread ends, if a needle was sewn.
abbrev pub last_mark : Pen → List ℕ
last_mark pen = if pen.pieces == 0 then [] else mark_text mark.End pen.place

-- What lies over the thread: needle holes, arrows and marks.
unfoldable pub over_text : List Stroke → Pen → List ℕ
over_text strokes pen = path_layer (codes "hole") layer.Holes strokes
    ++ (layer_text layer.Arrows strokes ++ (layer_text layer.Marks strokes ++ last_mark pen))

-- The texts below what is shown, with a line of the legend for each block.
unfoldable pub below_text : DesignValue → Area → List Stroke → Pen → List ℕ
below_text d area strokes pen =
    below_head area d.label (extent_width (extent_of d)) (extent_height (extent_of d))
    ++ (caption (counts_of d) pen ++ (layer_text layer.Legend strokes
    ++ (block_line (block_end d pen) ++ group_end)))

-- The picture of strokes that a design has.
unfoldable pub picture_with : DesignValue → Option Hoop → Option PictureSize → List Stroke → Pen
    → List ℕ
picture_with d hoop size strokes pen = design_top d (design_area d hoop size pen)
    ++ (framed_text d hoop
    ++ (sewn_text_of d hoop strokes ++ (over_text strokes pen ++ (crowds_text d
    ++ (below_text d (design_area d hoop size pen) strokes pen
    ++ (hoop_key_if_given d hoop pen ++ foot_text))))))

-- The picture of a design.
abbrev pub picture_of : DesignValue → Option Hoop → Option PictureSize → List ℕ
picture_of d hoop size = picture_with d hoop size (strokes_of d) (pen_of d)
