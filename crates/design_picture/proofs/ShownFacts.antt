-- Parts of pictures of designs by hand, and what they show. Points are in tenths of a millimetre.
use Rattle.std.proofs.Common.{◌≡◌, ◌≤◌, ◌++◌, pos, negsuc, true, false, List, [], ◌∷◌, None, Some, codes, map, refl, Option}
use Rattle.std.specs.Fmt.{digits}
use Rattle.std.specs.HashMap.{get}
use Rattle.std.specs.HashSet.{contains}
use Rattle.design_model.specs.declared.act.Act.TheVariants as act
use Rattle.design_model.specs.declared.command.Command.TheVariants as command
use Rattle.design_model.specs.declared.point.Point.{Point}
use Rattle.design_picture.specs.ArrowSquares.{is_same_square}
use Rattle.design_picture.specs.Hoops.{hoop_class, hoop_end, hoop_start, hoop_text, offset_text, hoop_key_end, hoop_key_start, rim_of, too_large}
use Rattle.design_picture.specs.KeptPasses.{passes_by}
use Rattle.design_picture.specs.Passes.{is_same_stitch}
use Rattle.design_picture.specs.Pictures.{hoop_if_given, last_mark, design_top, hoop_key_if_given, outside_if_given, outside_layer, thread_paths}
use Rattle.design_picture.specs.PlainPictures.{scale_description}
use Rattle.design_picture.specs.ShownActs.{StrokesShowActs, plain_act, shown_act}
use Rattle.design_picture.specs.declared.sewn_stitches.SewnStitches.{SewnStitches}
use Rattle.design_picture.specs.declared.strokes.Stroke.TheVariants.{Begin, Float, Sewn, Trim}
use Rattle.hoop_check.specs.declared.fitting.Fit.TheVariants as fit
use Rattle.picture_parts.specs.Marks.{mark_text, shape_at}
use Rattle.picture_parts.specs.Parts.{filled}
use Rattle.design_picture.proofs.PictureFacts.{point}
use Rattle.design_picture.proofs.Names.{DesignValue, HasCounted, Pen, acts_of, first_pen, sewn_by, strokes_of, Stroke, layer_text}
use Rattle.design_model.specs.declared.bounds.Extent.{Extent}
use Rattle.design_picture.specs.Layers.{path_layer}
use Rattle.design_picture.specs.Layouts.{top_text}
use Rattle.design_picture.specs.declared.hoop.Hoop.{Hoop}
use Rattle.design_picture.specs.declared.layers.Layer.TheVariants as layer
use Rattle.design_picture.specs.declared.layout.Area.{Area}
use Rattle.picture_parts.specs.Colours.{colour_of_thread}
use Rattle.picture_parts.specs.Paths.{coloured_path, path_end}
use Rattle.picture_parts.specs.declared.sheet.Sheet.{Sheet}
use Rattle.picture_parts.specs.declared.sizes.PictureSize.{PictureSize}

-- a hoop that doesn't fit is red
pub known_class : map hoop_class (fit.Upright ∷ fit.Turned ∷ fit.No 5 7 ∷ []) ≡ codes "line" ∷ codes "line" ∷ codes "line over" ∷ []
known_class = refl

-- a design without a thread has no mark at its end, and one with a thread a square at its last needle
abbrev pen : Pen
pen = record first_pen { pieces = 2; place = point (pos 40) (negsuc 6) }

pub known_last : (last_mark pen ≡ codes "<path class='end' d='M40,-7m6,-7h14v14h-14z'/>\n") × (last_mark first_pen ≡ [])
unfolding digits filled mark_text shape_at
known_last = (refl, refl)

-- a design of 5 mm by 20.1 mm doesn't fit a hoop of 10 mm by 20 mm
abbrev high : DesignValue
high = record {
  label = codes "A";
  threads = [];
  commands = command.Stitch (point (pos 10) (negsuc 19)) ∷ command.Stitch (point (pos 60) (pos 181)) ∷ [];
}

abbrev hoop : Option Hoop
hoop = Some (record { width = 100; height = 200 })

-- without a hoop there is neither an outline nor a line of the key
pub known_hoop : (hoop_if_given high hoop ≡ codes "<path class='line over' d='M10,-20m-25.0,0.5h100v200h-100z'/>\n")
    × (hoop_if_given high None ≡ [])
unfolding digits filled hoop_end hoop_start hoop_text offset_text
known_hoop = (refl, refl)

pub known_key : (hoop_key_if_given high hoop (record first_pen { stops = 2 })
    ≡ codes "<g transform='translate(0,272)'><text class='small'>hoop 10.0 x 20.0 mm: too large by 0.0 x 0.1 mm</text>"
    ++ codes "<path class='line' d='M498,-6m-9,0l9,-9l9,9l-9,9z'/><text class='small' x='514'>middle</text></g>" ++ 10 ∷ [])
    × (hoop_key_if_given high None first_pen ≡ [])
unfolding digits filled hoop_key_end hoop_key_start too_large
known_key = (refl, refl)

-- what is outside a hoop is drawn where the design doesn't fit
pub known_outside : (extent : Extent) (frame : Hoop) (strokes : List Stroke) → (outside_layer extent frame fit.Upright strokes ≡ [])
    × (outside_layer extent frame fit.Turned strokes ≡ [])
    × (outside_layer extent frame (fit.No 0 1) strokes ≡ path_layer (codes "outside") (layer.Outside (rim_of extent frame)) strokes)
    × (outside_if_given high None strokes ≡ [])
known_outside extent frame strokes = (refl, refl, refl, refl)

pub known_outside_if_given : (strokes : List Stroke) → outside_if_given high hoop strokes ≡ path_layer (codes "outside")
    (layer.Outside (record { corners = record { min = point (pos 10) (negsuc 19); max = point (pos 60) (pos 181) }; across = 0; down = 1 }))
    strokes
known_outside_if_given strokes = refl

-- the words before the shapes, and the thread of all blocks in the colour of the first
pub known_top : (area : Area) → design_top high area ≡ top_text area (codes "A")
    (codes "Each thread is sewn from its triangle to its square, along the arrows. A stitch that is sewn again is drawn beside the first.")
known_top area = refl

pub known_threads : (strokes : List Stroke)
    → thread_paths high strokes ≡ coloured_path (codes "thread") (colour_of_thread 1) ++ (layer_text layer.Threads strokes ++ path_end)
known_threads strokes = refl

-- what a pen has counted after three acts
pub known_counted : (p : Pen) → HasCounted 3 p → (p.stops ≤ 3) × (p.pieces ≤ 3) × (p.needles ≤ 3)
    × (p.since ≤ 18446744073709556616) × (p.sewn ≤ 55340232221128654848) × (p.thread ≤ 55340232221128654848)
    × (p.travel ≤ 55340232221128654848)
known_counted p has = (has.stops, has.pieces, has.needles, has.since, has.sewn, has.thread, has.travel)

-- what was sewn, by its stitches and squares
pub known_sewn : (sewn : SewnStitches)
    → sewn_by sewn ≡ record { passes = passes_by (get is_same_stitch sewn.passes); arrows = contains is_same_square sewn.arrows }
known_sewn sewn = refl

-- two needles, a float, a trim, a needle and a stop
abbrev design : DesignValue
design = record {
  label = [];
  threads = [];
  commands = command.Stitch (point (pos 0) (pos 0)) ∷ command.Stitch (point (pos 30) (pos 0)) ∷ command.Jump (point (pos 60) (pos 0))
      ∷ command.Stitch (point (pos 60) (pos 40)) ∷ command.Trim ∷ command.Stitch (point (pos 9) (pos 9)) ∷ command.Stop ∷ [];
}

-- where a stroke begins and where it ends
abbrev from : Point
from = point (pos 1) (pos 2)

abbrev needle : Point
needle = point (pos 3) (pos 4)

-- a stroke of thread shows the needle where it ends
pub known_acts : map shown_act (Begin (record { piece = 1; opens = true; from = from; at = needle }) ∷ Float from needle
    ∷ Sewn (record { pass = 0; arrow = false; from = from; at = needle }) ∷ Trim needle ∷ [])
    ≡ act.Needle needle false ∷ act.Needle needle false ∷ act.Needle needle false ∷ act.Trim ∷ []
known_acts = refl

-- each act is shown, and a float as its needle
pub known_shown : StrokesShowActs → map shown_act (strokes_of design)
    ≡ act.Needle (point (pos 0) (pos 0)) false ∷ act.Needle (point (pos 30) (pos 0)) false ∷ act.Needle (point (pos 60) (pos 40)) false
    ∷ act.Trim ∷ act.Needle (point (pos 9) (pos 9)) false ∷ act.Stop ∷ []
known_shown law = law design

-- of any design no act is left out
pub known_all_shown : StrokesShowActs → (d : DesignValue) → map shown_act (strokes_of d) ≡ map (λ a. plain_act a.act) (acts_of d)
known_all_shown law d = law d

pub known_plain : map plain_act (act.Needle (point (pos 3) (pos 4)) true ∷ act.Trim ∷ act.Stop ∷ [])
    ≡ act.Needle (point (pos 3) (pos 4)) false ∷ act.Trim ∷ act.Stop ∷ []
known_plain = refl

-- the scale of a sheet that is shown in its own size isn't described, and 3 cm in 1 cm are
abbrev sheet : Option PictureSize → Sheet
sheet size = record { corner = point (negsuc 49) (pos 7); width = 300; height = 260; size = size }

pub known_scale : (scale_description (sheet None) ≡ [])
    × (scale_description (sheet (Some (record { width = 10; height = 10 }))) ≡ codes "<desc>scale 1 : 3.0</desc>\n")
unfolding digits filled
known_scale = (refl, refl)
