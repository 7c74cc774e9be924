-- What is sewn before each act of a design: pieces, needles and lengths. A piece begins where the
-- thread is loose: at the first needle, and after a trim or a stop. Lengths are in thousandths of a
-- millimetre.
use Rattle.std.specs.Prelude.{ℕ, ◌+◌, ◌*◌, ◌/◌, ◌≤◌, ◌^◌, ◌==◌, nat_le, true, false, if◌then◌else◌}
use Rattle.design_model.specs.declared.act.Act.{Act}
use Rattle.design_model.specs.declared.act.Act.TheVariants.{Needle, Trim, Stop}
use Rattle.design_model.specs.declared.point.Point.{Point}
use Rattle.design_model.specs.Points.{origin}
use Rattle.design_picture.specs.declared.pen.Pen.{Pen}
use Rattle.design_picture.specs.declared.pen.TheConstants.{ARROW_GAP}
use Rattle.design_model.specs.Lengths.{length_of}

-- The pen before the first act.
abbrev pub first_pen : Pen
first_pen = record {
  stops = 0;
  pieces = 0;
  place = origin;
  loose = true;
  since = 0;
  needles = 0;
  sewn = 0;
  thread = 0;
  travel = 0;
}

-- The travel after a piece began: the way to the first piece is none.
abbrev pub travel_more : Pen → ℕ → ℕ
travel_more pen length = if pen.pieces == 0 then pen.travel else pen.travel + length

-- The pen after a needle that begins a piece, at a distance from the last needle.
abbrev pub piece_begun : Pen → Point → ℕ → Pen
piece_begun pen p length = record pen {
  pieces = pen.pieces + 1;
  place = p;
  loose = false;
  since = ARROW_GAP / 2;
  needles = pen.needles + 1;
  travel = travel_more pen length;
}

-- The thread since the last arrow, where the next stitch may have one.
abbrev pub since_arrow : Pen → ℕ
since_arrow pen = if nat_le ARROW_GAP pen.since then 0 else pen.since

-- The pen after a needle to which thread of a length leads.
abbrev pub thread_sewn : Pen → Point → ℕ → Pen
thread_sewn pen p length = record pen {
  place = p;
  since = since_arrow pen + length;
  needles = pen.needles + 1;
  sewn = pen.sewn + length;
  thread = pen.thread + length;
}

-- The pen after a needle.
abbrev pub needle_down : Pen → Point → Pen
needle_down pen p = if pen.loose then piece_begun pen p (length_of pen.place p)
    else thread_sewn pen p (length_of pen.place p)

-- The pen after a trim.
abbrev pub thread_cut : Pen → Pen
thread_cut pen = record pen { loose = true }

-- The pen after a stop, which begins a block.
abbrev pub block_stopped : Pen → Pen
block_stopped pen = record pen { stops = pen.stops + 1; loose = true; needles = 0; sewn = 0 }

-- The pen after an act.
abbrev pub pen_after : Pen → Act → Pen
pen_after pen (Needle p float) = needle_down pen p
pen_after pen Trim = thread_cut pen
pen_after pen Stop = block_stopped pen

-- No number of a pen is greater than the acts before it allow.
pub record HasCounted (acts : ℕ) (pen : Pen) : Type 0 where
  pub stops : pen.stops ≤ acts
  pub pieces : pen.pieces ≤ acts
  pub needles : pen.needles ≤ acts
  pub since : pen.since ≤ ARROW_GAP + 2 ^ 64
  pub sewn : pen.sewn ≤ acts * 2 ^ 64
  pub thread : pen.thread ≤ acts * 2 ^ 64
  pub travel : pen.travel ≤ acts * 2 ^ 64
