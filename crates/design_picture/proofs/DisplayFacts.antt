-- The constants of pictures of designs, and values at their bounds. Lengths are in tenths of a millimetre.
use Rattle.std.proofs.Common.{◌≡◌, ℕ, pos, negsuc, true, false, List, [], ◌∷◌, Some, None, codes, ◌++◌, map, refl}
use Rattle.std.specs.Fmt.{digits}
use Rattle.design_picture.proofs.Names.{DesignValue, strokes_of}
use Rattle.design_picture.proofs.PictureFacts.{point, sewn}
use Rattle.design_model.specs.declared.command.Command.TheVariants.{Jump, Stitch}
use Rattle.design_model.specs.declared.command.Command.{Command}
use Rattle.design_model.specs.declared.point.Point.{Point}
use Rattle.design_picture.specs.declared.crowds.TheConstants.{MIN_CROWD}
use Rattle.design_picture.specs.Crowds.{crowd_square, crowds_text}
use Rattle.design_picture.specs.declared.arrow_squares.TheConstants.{ARROW_SQUARE}
use Rattle.design_picture.specs.declared.hoop.Rim.{Rim}
use Rattle.design_model.specs.declared.bounds.Extent.{Extent}
use Rattle.design_picture.specs.declared.block_line.TheConstants.{LINE_HEIGHT}
use Rattle.design_picture.specs.declared.layers.Layer.TheVariants as layer
use Rattle.design_picture.specs.declared.layout.TheConstants.{MARGIN, MIN_WIDTH, TEXT_HEIGHT}
use Rattle.design_picture.specs.declared.links.PointPair.{PointPair}
use Rattle.design_picture.specs.declared.links.TheConstants.{MAX_PASSES}
use Rattle.design_picture.specs.declared.pen.TheConstants.{ARROW_GAP}
use Rattle.design_picture.specs.declared.threads.TheConstants.{MIN_SHOWN}
use Rattle.design_picture.specs.ArrowSquares.{square_of_pass, square_number}
use Rattle.design_picture.specs.Hoops.{fit_words, hoop_end, hoop_key, hoop_key_end, hoop_key_start, hoop_start, hoop_text, is_beyond_hoop, offset_text, rim_of, too_large}
use Rattle.design_picture.specs.Layers.{layer_text}
use Rattle.design_picture.specs.Layouts.{area_of}
use Rattle.design_picture.specs.KeptPasses.{forward_stitch, is_forward, passes_by, passes_toward, with_pass}
use Rattle.design_picture.specs.Passes.{earlier_passes, passes_with}
use Rattle.design_picture.specs.Threads.{arc_text, arrow_shape, bow_of, hole_shape}
use Rattle.hoop_check.specs.declared.fitting.Fit.TheVariants as fit
use Rattle.design_model.specs.Lengths.{length_of, square_of, whole_root}
use Rattle.picture_parts.specs.Parts.{around, filled}
use Rattle.picture_parts.specs.Paths.{move_text, path_end, straight_text}

-- A stitch of 0.7 mm on an axis shows its hole, and an arrow follows 5 mm of thread, in thousandths, in a square of 5 mm. Passes are
-- distinguished up to three, each with its own arc.
pub known_threads : (MIN_SHOWN ≡ 7) × (ARROW_GAP ≡ 5000) × (MAX_PASSES ≡ 3) × (ARROW_SQUARE ≡ 50)
known_threads = (refl, refl, refl, refl)

-- The margin of 6 mm, the least width of 56 mm, and for the texts 19 mm, with 2.8 mm for each line of the legend.
pub known_layout : (MARGIN ≡ 60) × (MIN_WIDTH ≡ 560) × (TEXT_HEIGHT ≡ 190) × (LINE_HEIGHT ≡ 28)
known_layout = (refl, refl, refl, refl)

-- Stitches of 6 by 6 hide their holes, and those of 7 on one axis show them, in either direction.
pub known_long_holes : layer_text layer.Holes (sewn 0 false (point (pos 0) (pos 0)) (point (pos 6) (negsuc 5))
    ∷ sewn 0 false (point (pos 0) (pos 0)) (point (pos 7) (pos 1)) ∷ sewn 0 false (point (pos 9) (pos 0)) (point (pos 9) (negsuc 6)) ∷ [])
    ≡ codes "M7,1h0M9,-7h0"
unfolding around digits hole_shape
known_long_holes = refl

-- The radii of a stitch of 96, whose square is 9216: 288 and 2, 144 and 4, then 96 and 6 for every further pass.
pub known_radii : map (λ pass. bow_of (record { pass = pass; arrow = false; from = point (pos 0) (pos 0); at = point (pos 0) (pos 96) }))
    (1 ∷ 2 ∷ 3 ∷ 6 ∷ []) ≡ 290 ∷ 148 ∷ 102 ∷ 102 ∷ []
unfolding square_of
known_radii = refl

abbrev at : ℕ → ℕ → Point
at x y = point (pos x) (pos y)

abbrev stitch : Point → Point → PointPair
stitch from to = record { from = from; to = to }

-- To the right and down a column a stitch leads forward, to the left and up it leads back, and one on a point does neither.
pub known_forward : map is_forward (stitch (at 0 9) (at 1 2) ∷ stitch (at 1 2) (at 1 3) ∷ stitch (at 1 2) (at 0 9)
    ∷ stitch (at 1 3) (at 1 2) ∷ stitch (at 1 3) (at 1 3) ∷ []) ≡ true ∷ true ∷ false ∷ false ∷ false ∷ []
known_forward = refl

pub known_kept : (forward_stitch (stitch (at 5 0) (at 4 0)) ≡ stitch (at 4 0) (at 5 0))
    × (forward_stitch (stitch (at 4 0) (at 5 0)) ≡ stitch (at 4 0) (at 5 0))
known_kept = (refl, refl)

-- Three passes are counted in each direction, and four are three.
pub known_passes : (map (passes_toward true) (record { forward = 1; back = 3 } ∷ record { forward = 4; back = 2 } ∷ []) ≡ 1 ∷ 3 ∷ [])
    × (map (passes_toward false) (record { forward = 1; back = 3 } ∷ record { forward = 4; back = 2 } ∷ []) ≡ 3 ∷ 2 ∷ [])
    × (with_pass true (record { forward = 1; back = 3 }) ≡ record { forward = 2; back = 3 })
    × (with_pass false (record { forward = 1; back = 3 }) ≡ record { forward = 1; back = 3 })
    × (with_pass false (record { forward = 3; back = 0 }) ≡ record { forward = 3; back = 1 })
known_passes = (refl, refl, refl, refl, refl)

-- A stitch sewn once forward and twice back was sewn three times, whichever way the next one leads.
pub known_earlier : map (earlier_passes (passes_by (λ kept. Some (record { forward = 1; back = 2 }))))
    (stitch (at 0 9) (at 1 2) ∷ stitch (at 1 2) (at 0 9) ∷ []) ≡ 3 ∷ 3 ∷ []
known_earlier = refl

-- One more pass is counted of that stitch alone.
pub known_more : map (passes_with (passes_by (λ kept. None)) (stitch (at 0 9) (at 1 2)))
    (stitch (at 0 9) (at 1 2) ∷ stitch (at 1 2) (at 0 9) ∷ []) ≡ 1 ∷ 0 ∷ []
known_more = refl

-- A design of 5 mm by 20.1 mm.
abbrev extent : Extent
extent = record { min = point (pos 10) (negsuc 19); max = point (pos 60) (pos 181) }

-- A hoop of 10 mm by 20 mm around it: half of 5 mm and 6 mm at a side, and 6 mm above, where the hoop is shorter. Of 30.4 mm, half of
-- 10.3 mm is rounded up.
pub known_areas : (area_of (Some extent) (record { width = 100; height = 200 }) 1 None
    ≡ record { corners = extent; side = 85; above = 60; lines = 1; size = None })
    × (area_of (Some extent) (record { width = 40; height = 304 }) 3 (Some (record { width = 50; height = 70 }))
    ≡ record { corners = extent; side = 60; above = 112; lines = 3; size = Some (record { width = 50; height = 70 }) })
known_areas = (refl, refl)

-- The hoop of 10 mm by 20 mm begins 2.5 mm left of the design and 0.05 mm below its upper side. It is red where the design doesn't fit.
pub known_hoop_texts : (hoop_text extent (record { width = 100; height = 200 }) (fit.No 0 1)
    ≡ codes "<path class='line over' d='M10,-20m-25.0,0.5h100v200h-100z'/>" ++ 10 ∷ [])
    × (hoop_text extent (record { width = 40; height = 204 }) fit.Upright
    ≡ codes "<path class='line' d='M10,-20m5.0,-1.5h40v204h-40z'/>" ++ 10 ∷ [])
    × (hoop_text extent (record { width = 204; height = 50 }) fit.Turned
    ≡ codes "<path class='line' d='M10,-20m-77.0,75.5h204v50h-204z'/>" ++ 10 ∷ [])
unfolding digits filled hoop_end hoop_start hoop_text offset_text
known_hoop_texts = (refl, refl, refl)

-- Of 5 mm by 20.1 mm a hoop of 10 mm by 20 mm leaves out less than 0.1 mm above and below, and one of 4.1 mm by 30.4 mm nearly 0.5 mm
-- at each side.
pub known_rims : (rim_of extent (record { width = 100; height = 200 }) ≡ record { corners = extent; across = 0; down = 1 })
    × (rim_of extent (record { width = 41; height = 304 }) ≡ record { corners = extent; across = 5; down = 0 })
known_rims = (refl, refl)

-- A rim of 0.5 mm at the sides, and of 0.1 mm above and below.
abbrev rim : Rim
rim = record { corners = extent; across = 5; down = 1 }

-- At each of the four sides the first point outside, and the first that is not.
pub known_outside : (map (is_beyond_hoop rim) (point (pos 14) (pos 0) ∷ point (pos 56) (pos 0) ∷ point (pos 30) (negsuc 19)
    ∷ point (pos 30) (pos 181) ∷ []) ≡ true ∷ true ∷ true ∷ true ∷ [])
    × (map (is_beyond_hoop rim) (point (pos 15) (pos 0) ∷ point (pos 55) (pos 0) ∷ point (pos 30) (negsuc 18) ∷ point (pos 30)
    (pos 180) ∷ [])
    ≡ false ∷ false ∷ false ∷ false ∷ [])
known_outside = (refl, refl)

-- Stitches that begin or end outside, once each.
pub known_outside_stitches : layer_text (layer.Outside rim) (sewn 0 false (point (pos 15) (pos 0)) (point (pos 55) (pos 0))
    ∷ sewn 0 false (point (pos 55) (pos 0)) (point (pos 56) (pos 0)) ∷ sewn 1 false (point (pos 56) (pos 0)) (point (pos 24) (pos 0)) ∷ [])
    ≡ (10 ∷ codes "M55,0L56,0") ++ (10 ∷ codes "M56,0A34,34,0,0,1,24,0")
unfolding arc_text around digits filled move_text square_of straight_text
known_outside_stitches = refl

-- Below three lines, 16 mm and four lines of 2.8 mm from the bar.
pub known_hoop_keys : (hoop_key 3 (record { width = 100; height = 200 }) (fit.No 12 345)
    ≡ codes "<g transform='translate(0,272)'><text class='small'>hoop 10.0 x 20.0 mm: too large by 1.2 x 34.5 mm</text>"
    ++ codes "<path class='line' d='M498,-6m-9,0l9,-9l9,9l-9,9z'/><text class='small' x='514'>middle</text></g>" ++ 10 ∷ [])
    × (fit_words fit.Upright ≡ codes "fits") × (fit_words fit.Turned ≡ codes "fits turned")
unfolding digits filled hoop_key_end hoop_key_start too_large
known_hoop_keys = (refl, refl, refl)

-- Squares of 5 mm from -3,000 mm on: -3,000, -0.1, 0, 4.9 and 5 mm.
pub known_squares : (map square_number (negsuc 29999 ∷ negsuc 0 ∷ pos 0 ∷ pos 49 ∷ pos 50 ∷ []) ≡ 0 ∷ 599 ∷ 600 ∷ 600 ∷ 601 ∷ [])
    × (square_of_pass (point (pos 49) (negsuc 0)) 2 ≡ record { column = 600; row = 599; pass = 2 })
known_squares = (refl, refl)

-- Satin of 6 mm: an arrow is due at each stitch from the second on. The second and the third end in squares of their own, the fourth
-- in that of the second.
abbrev satin : DesignValue
satin = record {
  label = [];
  threads = [];
  commands = Stitch (point (pos 0) (pos 0)) ∷ Stitch (point (pos 60) (pos 0))
      ∷ Stitch (point (pos 4) (pos 0)) ∷ Stitch (point (pos 64) (pos 0)) ∷ Stitch (point (pos 8) (pos 0)) ∷ [];
}

pub known_arrows : layer_text layer.Arrows (strokes_of satin) ≡ codes "<path class='arrow' d='M60,0L4,0'/>"
    ++ (10 ∷ codes "<path class='arrow' d='M4,0L64,0'/>" ++ 10 ∷ [])
unfolding around arrow_shape digits filled length_of path_end square_of straight_text whole_root
known_arrows = refl

-- Needles of which each is 0.1 mm from the next or at it: with seven the first is marked, the command after a jump, and with six none.
abbrev crowded : List Command → DesignValue
crowded more = record {
  label = [];
  threads = [];
  commands = Jump (point (pos 3) (pos 4)) ∷ Stitch (point (pos 10) (negsuc 1))
      ∷ Stitch (point (pos 11) (negsuc 1)) ∷ Stitch (point (pos 10) (negsuc 1)) ∷ Stitch (point (pos 11) (negsuc 1))
      ∷ Stitch (point (pos 10) (negsuc 1)) ∷ Stitch (point (pos 11) (negsuc 1)) ∷ more;
}

pub known_crowds : (crowds_text (crowded (Stitch (point (pos 10) (negsuc 1)) ∷ []))
    ≡ codes "<path fill='none' stroke='#d00' stroke-width='2' d='M10,-2m-8,-8h16v16h-16z'/>" ++ 10 ∷ [])
    × (crowds_text (crowded []) ≡ []) × (MIN_CROWD ≡ 7)
unfolding crowd_square digits filled length_of square_of whole_root
known_crowds = (refl, refl, refl)
