-- What is sewn before each act of a design. A piece is the needles of one thread: it begins where
-- the thread is loose, and ends with a trim, a stop or the design.
use Rattle.std.specs.Prelude.{ℕ, ◌+◌, ◌-◌, ◌≤◌, Bool, nat_lt, List, drop, take, if◌then◌else◌}
use Rattle.design_model.specs.declared.act.Act.{Act}
use Rattle.design_model.specs.declared.act.Act.TheVariants.{Needle, Trim, Stop}
use Rattle.design_model.specs.declared.point.Point.{Point}
use Rattle.design_model.specs.Points.{origin}
use Rattle.design_review.specs.declared.sewn.Sewn.{Sewn}
use Rattle.design_review.specs.declared.thread_needles.ThreadNeedle.{ThreadNeedle}

-- Nothing is sewn.
abbrev pub nothing_sewn : Sewn
nothing_sewn = record {
  needles = 0;
  place = origin;
  before_piece = 0;
  before_block = 0;
  pieces = 0;
  stops = 0;
}

-- The test whether the thread comes from a needle, and isn't loose.
abbrev pub is_piece_open : Sewn → Bool
is_piece_open sewn = nat_lt sewn.before_piece sewn.needles

-- The needles of the piece that is sewn, among those of the design; none where the thread is loose.
abbrev pub open_piece : List ThreadNeedle → Sewn → List ThreadNeedle
open_piece needles sewn = take (sewn.needles - sewn.before_piece) (drop sewn.before_piece needles)

-- What is sewn after a needle. It begins a piece where the thread is loose.
abbrev pub sewn_needle : Sewn → Point → Sewn
sewn_needle sewn p = record sewn {
  needles = sewn.needles + 1;
  place = p;
  pieces = if is_piece_open sewn then sewn.pieces else sewn.pieces + 1;
}

-- What is sewn after a trim.
abbrev pub sewn_trim : Sewn → Sewn
sewn_trim sewn = record sewn { before_piece = sewn.needles }

-- What is sewn after a stop.
abbrev pub sewn_stop : Sewn → Sewn
sewn_stop sewn = record sewn {
  before_piece = sewn.needles;
  before_block = sewn.needles;
  stops = sewn.stops + 1;
}

-- What is sewn after an act.
abbrev pub sewn_after : Sewn → Act → Sewn
sewn_after sewn (Needle p float) = sewn_needle sewn p
sewn_after sewn Trim = sewn_trim sewn
sewn_after sewn Stop = sewn_stop sewn

-- No number of what is sewn is greater than the acts before it allow.
pub record HasSewn (acts : ℕ) (sewn : Sewn) : Type 0 where
  pub needles : sewn.needles ≤ acts
  pub before_piece : sewn.before_piece ≤ sewn.needles
  pub pieces : sewn.pieces ≤ acts
  pub stops : sewn.stops ≤ acts
