-- The thumbnails of a design: one of the entire design, then one of each block. The stitches are
-- straight lines of points; a needle to which the thread is loose, or that a jump leads to, is one
-- point.
use Rattle.std.specs.Prelude.{ℕ, Bool, true, false, List, [], ◌∷◌, ◌++◌, if◌then◌else◌}
use Rattle.design_model.specs.declared.act.Act.{Act}
use Rattle.design_model.specs.declared.act.Act.TheVariants as act
use Rattle.design_model.specs.declared.act.NumberedAct.{NumberedAct}
use Rattle.design_model.specs.Acts.{acts_of}
use Rattle.design_model.specs.Designs.{DesignValue}
use Rattle.design_model.specs.Extents.{extent_of}
use Rattle.thumbnails.specs.declared.lit_points.ThumbPoint.{ThumbPoint}
use Rattle.thumbnails.specs.declared.scaling.View.{View}
use Rattle.thumbnails.specs.declared.sketch.Sketch.{Sketch}
use Rattle.thumbnails.specs.LitPoints.{ThumbPoints, no_points, points_in_cells, with_thumb_line}
use Rattle.thumbnails.specs.Packings.{thumb_bytes}
use Rattle.thumbnails.specs.Scales.{thumb_point, view_of}

-- What is drawn so far: the points of the design and of the block, the last needle, whether the
-- thread is loose, and the bytes of the blocks that are done.
pub record Sketched : Type 0 where
  pub whole : ThumbPoints
  pub block : ThumbPoints
  pub place : ThumbPoint
  pub loose : Bool
  pub done : List ℕ

-- What is drawn so far, as the tables of points have it.
abbrev pub sketch_by : Sketch → Sketched
sketch_by sketch = record {
  whole = points_in_cells sketch.whole;
  block = points_in_cells sketch.block;
  place = sketch.place;
  loose = sketch.loose;
  done = sketch.done;
}

-- Nothing is drawn so far.
abbrev pub nothing_sketched : Sketched
nothing_sketched = record {
  whole = no_points;
  block = no_points;
  place = record { column = 0; row = 0 };
  loose = true;
  done = [];
}

-- Where the line to a needle begins: at the last needle, or at this one.
abbrev pub line_start : Sketched → Bool → ThumbPoint → ThumbPoint
line_start sketched float to =
    if sketched.loose then to else (if float then to else sketched.place)

-- What is drawn after a line to a needle.
abbrev pub with_needle : Sketched → (from to : ThumbPoint) → Sketched
with_needle sketched from to = record {
  whole = with_thumb_line sketched.whole from to;
  block = with_thumb_line sketched.block from to;
  place = to;
  loose = false;
  done = sketched.done;
}

-- What is drawn after the end of a block.
abbrev pub block_ended : Sketched → Sketched
block_ended sketched = record {
  whole = sketched.whole;
  block = no_points;
  place = sketched.place;
  loose = true;
  done = sketched.done ++ thumb_bytes sketched.block;
}

-- What is drawn after an act.
abbrev pub sketched_after : View → Sketched → Act → Sketched
sketched_after view sketched (act.Needle p float) =
    with_needle sketched (line_start sketched float (thumb_point view p)) (thumb_point view p)
sketched_after view sketched act.Trim = record sketched { loose = true }
sketched_after view sketched act.Stop = block_ended sketched

-- What is drawn after acts.
abbrev pub sketched_along : View → Sketched → List NumberedAct → Sketched
sketched_along view sketched [] = sketched
sketched_along view sketched (a ∷ rest) =
    sketched_along view (sketched_after view sketched a.act) rest

-- The bytes of the thumbnails: of the design, of the blocks that are done, and of the last block.
abbrev pub bytes_of_sketch : Sketched → List ℕ
bytes_of_sketch sketched =
    thumb_bytes sketched.whole ++ (sketched.done ++ thumb_bytes sketched.block)

-- The thumbnails of a design.
abbrev pub drawn_thumbnails_of : DesignValue → List ℕ
drawn_thumbnails_of d = bytes_of_sketch
    (sketched_along (view_of (extent_of d)) nothing_sketched (acts_of d))
