-- What a picture shows of a design: a stroke for each act, in order. Lengths are in thousandths of
-- a millimetre.
use Rattle.std.specs.Prelude.{ℕ, ◌+◌, ◌==◌, Bool, false, List, [], ◌∷◌, if◌then◌else◌}
use Rattle.std.specs.HashMap.{get}
use Rattle.std.specs.HashSet.{contains}
use Rattle.design_model.specs.declared.act.Act.{Act}
use Rattle.design_model.specs.declared.act.Act.TheVariants as act
use Rattle.design_model.specs.declared.act.NumberedAct.{NumberedAct}
use Rattle.design_model.specs.declared.point.Point.{Point}
use Rattle.design_model.specs.Acts.{acts_of}
use Rattle.design_model.specs.Designs.{DesignValue, thread_of}
use Rattle.design_picture.specs.declared.arrow_squares.ArrowSquare.{ArrowSquare}
use Rattle.design_picture.specs.declared.links.PointPair.{PointPair}
use Rattle.design_picture.specs.declared.pen.Pen.{Pen}
use Rattle.design_picture.specs.declared.sewn_stitches.SewnStitches.{SewnStitches}
use Rattle.design_picture.specs.declared.strokes.BlockEnd.{BlockEnd}
use Rattle.design_picture.specs.declared.strokes.SewnStitch.{SewnStitch}
use Rattle.design_picture.specs.declared.strokes.Stroke.{Stroke}
use Rattle.design_picture.specs.declared.strokes.Stroke.TheVariants.{Begin, Float, Sewn, Trim, Stop}
use Rattle.design_picture.specs.ArrowSquares.{arrows_with, has_arrow, is_same_square, square_of_pass}
use Rattle.design_picture.specs.KeptPasses.{passes_by}
use Rattle.design_picture.specs.Passes.{earlier_passes, is_same_stitch, passes_with}
use Rattle.design_picture.specs.Pens.{first_pen, pen_after}

-- What was sewn so far: the passes of each stitch, and the squares that have an arrow.
pub record SewnSoFar : Type 0 where
  pub passes : PointPair → ℕ
  pub arrows : ArrowSquare → Bool

-- What was sewn so far, as the stitches and squares have it.
abbrev pub sewn_by : SewnStitches → SewnSoFar
sewn_by sewn = record {
  passes = passes_by (get is_same_stitch sewn.passes);
  arrows = contains is_same_square sewn.arrows;
}

-- Nothing was sewn so far.
abbrev pub none_passed : SewnSoFar
none_passed = record { passes = λ stitch. 0; arrows = λ square. false }

-- The end of the block that a pen is in.
abbrev pub block_end : DesignValue → Pen → BlockEnd
block_end d pen = record {
  at = pen.place;
  block = pen.stops + 1;
  thread = thread_of d pen.stops;
  needles = pen.needles;
  sewn = pen.sewn;
}

-- The stroke of a stop.
abbrev pub stop_stroke : DesignValue → Pen → Stroke
stop_stroke d pen = Stop (block_end d pen) (thread_of d (pen.stops + 1))

-- The stitch from the last needle.
abbrev pub stitch_to : Pen → Point → PointPair
stitch_to pen p = record { from = pen.place; to = p }

-- How often the stitch to a needle was sewn before.
abbrev pub pass_to : Pen → SewnSoFar → Point → ℕ
pass_to pen sewn p = earlier_passes sewn.passes (stitch_to pen p)

-- The stitch to a needle.
abbrev pub sewn_stitch : Pen → SewnSoFar → Point → SewnStitch
sewn_stitch pen sewn p = record {
  pass = pass_to pen sewn p;
  arrow = has_arrow pen sewn.arrows (square_of_pass p (pass_to pen sewn p));
  from = pen.place;
  at = p;
}

-- The stroke of a needle: the beginning of a piece where the thread is loose, else a float or a
-- stitch.
abbrev pub needle_stroke : Pen → SewnSoFar → Bool → Point → Stroke
needle_stroke pen sewn float p =
    if pen.loose
    then Begin (record {
      piece = pen.pieces + 1;
      opens = pen.needles == 0;
      from = pen.place;
      at = p;
    })
    else (if float then Float pen.place p else Sewn (sewn_stitch pen sewn p))

-- What was sewn after a stitch to a needle.
abbrev pub stitch_added : Pen → SewnSoFar → Point → SewnSoFar
stitch_added pen sewn p = record {
  passes = passes_with sewn.passes (stitch_to pen p);
  arrows = arrows_with pen sewn.arrows (square_of_pass p (pass_to pen sewn p));
}

-- What was sewn after a needle.
abbrev pub needle_added : Pen → SewnSoFar → Bool → Point → SewnSoFar
needle_added pen sewn float p =
    if pen.loose then sewn else (if float then sewn else stitch_added pen sewn p)

-- The stroke of an act.
abbrev pub stroke_of_act : DesignValue → Pen → SewnSoFar → Act → Stroke
stroke_of_act d pen sewn (act.Needle p float) = needle_stroke pen sewn float p
stroke_of_act d pen sewn act.Trim = Trim pen.place
stroke_of_act d pen sewn act.Stop = stop_stroke d pen

-- What was sewn after an act.
abbrev pub passes_after : Pen → SewnSoFar → Act → SewnSoFar
passes_after pen sewn (act.Needle p float) = needle_added pen sewn float p
passes_after pen sewn act.Trim = sewn
passes_after pen sewn act.Stop = sewn

-- The strokes of acts in order.
abbrev pub strokes_from : DesignValue → Pen → SewnSoFar → List NumberedAct → List Stroke
strokes_from d pen sewn [] = []
strokes_from d pen sewn (a ∷ rest) = stroke_of_act d pen sewn a.act
    ∷ strokes_from d (pen_after pen a.act) (passes_after pen sewn a.act) rest

-- The strokes of a design.
abbrev pub strokes_of : DesignValue → List Stroke
strokes_of d = strokes_from d first_pen none_passed (acts_of d)

-- The pen after acts.
abbrev pub pen_along : Pen → List NumberedAct → Pen
pen_along pen [] = pen
pen_along pen (a ∷ rest) = pen_along (pen_after pen a.act) rest

-- The pen after the last act of a design.
abbrev pub pen_of : DesignValue → Pen
pen_of d = pen_along first_pen (acts_of d)
