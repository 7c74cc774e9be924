-- Worked values of strokes and of what is drawn of them, by hand.
use Rattle.std.proofs.Common.{◌≡◌, ℕ, ℤ, Bool, pos, negsuc, List, [], ◌∷◌, ◌++◌, true, false, Some, codes, map, refl}
use Rattle.std.specs.Fmt.{digits}
use Rattle.design_picture.proofs.Names.{DesignValue, Stroke, layer_text, pen_of, strokes_of}
use Rattle.design_model.specs.declared.command.Command.TheVariants.{Stitch, Jump}
use Rattle.design_model.specs.declared.command.Command.TheVariants as command
use Rattle.design_model.specs.declared.point.Point.{Point}
use Rattle.design_picture.specs.declared.layers.Layer.TheVariants as layer
use Rattle.design_picture.specs.declared.strokes.Stroke.TheVariants.{Begin, Float, Sewn, Trim, Stop}
use Rattle.design_picture.specs.Hoops.{hoop_as_fits, offset_text}
use Rattle.design_picture.specs.Layouts.{area_of, sheet_of}
use Rattle.design_picture.specs.Threads.{arc_text, arrow_shape, hole_shape, travel_shape}
use Rattle.hoop_check.specs.declared.fitting.Fit.TheVariants as fit
use Rattle.picture_parts.specs.AgainColours.{again_colour_of}
use Rattle.picture_parts.specs.Colours.{colour_of_thread}
use Rattle.design_model.specs.Lengths.{length_of, square_of, whole_root}
use Rattle.picture_parts.specs.Parts.{around, filled}
use Rattle.picture_parts.specs.Paths.{coloured_path, move_text, path_end, straight_text}

abbrev pub point : ℤ → ℤ → Point
point x y = record { x = x; y = y }

-- Three needles 3 mm apart and back, a trim and a stop; then a needle, and a float to another.
abbrev pub forth_and_back : DesignValue
forth_and_back = record {
  label = [];
  threads = 5 ∷ [];
  commands = Stitch (point (pos 0) (pos 0)) ∷ Stitch (point (pos 30) (pos 0)) ∷ Stitch (point (pos 0) (pos 0)) ∷ command.Trim ∷ command.Stop
      ∷ Stitch (point (pos 3) (negsuc 3)) ∷ Jump (point (pos 9) (pos 9)) ∷ Stitch (point (pos 3) (pos 6)) ∷ [];
}

-- A piece that opens its block, and a stitch.
abbrev pub begun : ℕ → Point → Point → Stroke
begun piece from at = Begin (record { piece = piece; opens = true; from = from; at = at })

abbrev pub sewn : ℕ → Bool → Point → Point → Stroke
sewn pass arrow from at = Sewn (record { pass = pass; arrow = arrow; from = from; at = at })

-- The stitch back was sewn before. It has the first arrow, since 5.5 mm of thread come before its needle.
abbrev pub shown_strokes : List Stroke
shown_strokes = begun 1 (point (pos 0) (pos 0)) (point (pos 0) (pos 0))
    ∷ sewn 0 false (point (pos 0) (pos 0)) (point (pos 30) (pos 0))
    ∷ sewn 1 true (point (pos 30) (pos 0)) (point (pos 0) (pos 0))
    ∷ Trim (point (pos 0) (pos 0))
    ∷ Stop (record { at = point (pos 0) (pos 0); block = 1; thread = 5; needles = 3; sewn = 6000 }) 2
    ∷ begun 2 (point (pos 0) (pos 0)) (point (pos 3) (negsuc 3))
    ∷ Float (point (pos 3) (negsuc 3)) (point (pos 3) (pos 6)) ∷ []

pub known_strokes : strokes_of forth_and_back ≡ shown_strokes
unfolding length_of square_of whole_root
known_strokes = refl

-- 6 mm of thread and a float of 1 mm, and a travel of 0.5 mm
pub known_pen : pen_of forth_and_back ≡ record {
  stops = 1;
  pieces = 2;
  place = point (pos 3) (pos 6);
  loose = false;
  since = 3500;
  needles = 2;
  sewn = 1000;
  thread = 7000;
  travel = 500;
}
unfolding length_of square_of whole_root
known_pen = refl

-- The second pass is an arc of 3 mm: 900 / 32 is 28, and 2 more.
pub known_threads : layer_text layer.Threads shown_strokes ≡ (10 ∷ codes "M0,0L30,0A30,30,0,0,1,0,0'/>")
    ++ (10 ∷ codes "<path class='thread' stroke='#0a55a3' d='") ++ (10 ∷ codes "M3,-4") ++ (10 ∷ codes "M3,6")
unfolding around filled digits move_text straight_text arc_text path_end coloured_path colour_of_thread square_of
known_threads = refl

pub known_holes : layer_text layer.Holes shown_strokes ≡ codes "M0,0h0M30,0h0M0,0h0M3,-4h0M3,6h0"
unfolding around digits hole_shape
known_holes = refl

-- What is sewn again of the second block would be orange on its thread 2, Blue.
pub known_seconds : layer_text layer.Seconds shown_strokes ≡ (10 ∷ codes "M30,0A30,30,0,0,1,0,0'/>")
    ++ (10 ∷ codes "<path class='again' stroke='#ff6a00' d='")
unfolding again_colour_of around coloured_path colour_of_thread filled digits move_text arc_text path_end square_of
known_seconds = refl

pub known_arrows : layer_text layer.Arrows shown_strokes ≡ codes "<path class='arrow' d='M30,0A30,30,0,0,1,0,0'/>" ++ 10 ∷ []
unfolding around filled digits arrow_shape arc_text path_end square_of
known_arrows = refl

-- No way leads to the first piece.
pub known_travels : layer_text layer.Travels shown_strokes ≡ codes "<path class='travel' d='M0,0L3,-4'/>"
    ++ 10 ∷ codes "<path class='travel' d='M3,-4L3,6'/>" ++ 10 ∷ []
unfolding filled digits travel_shape
known_travels = refl

-- A hoop of 10 mm by 20 mm around 5 mm by 20.1 mm begins 2.5 mm to the left, and 0.05 mm below; it is turned where only that fits.
pub known_offsets : offset_text [] 100 50 ++ offset_text (codes " ") 200 201 ≡ codes "-25.0 0.5"
unfolding offset_text filled digits
known_offsets = refl

pub known_hoops : map (hoop_as_fits (record { width = 1; height = 2 })) (fit.Upright ∷ fit.Turned ∷ fit.No 3 4 ∷ [])
    ≡ record { width = 1; height = 2 } ∷ record { width = 2; height = 1 } ∷ record { width = 1; height = 2 } ∷ []
known_hoops = refl

-- 70 mm by 3 mm with two lines of legend: 6 mm around, and 19 mm and two lines of 2.8 mm below
pub known_sheet : sheet_of (area_of (Some (record { min = point (negsuc 0) (pos 7); max = point (pos 699) (pos 37) }))
    (record { width = 0; height = 0 }) 2 (Some (record { width = 210; height = 297 })))
    ≡ record { corner = point (negsuc 0) (pos 7); width = 820; height = 396; size = Some (record { width = 210; height = 297 }) }
known_sheet = refl
