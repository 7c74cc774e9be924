-- How the passes of stitches are kept: of a stitch and the opposite one, both with the one that
-- leads forward.
use Rattle.std.specs.Prelude.{ℕ, ◌&&◌, ◌||◌, Bool, int_lt, min, Option, unwrap_or, if◌then◌else◌}
use Rattle.std.specs.Ordering.{int_eq}
use Rattle.design_picture.specs.declared.links.Passes.{Passes}
use Rattle.design_picture.specs.declared.links.PointPair.{PointPair}
use Rattle.design_picture.specs.declared.links.TheConstants.{MAX_PASSES, NO_PASSES}
use Rattle.design_picture.specs.Passes.{one_more, turned_stitch}

-- A stitch leads forward: its first needle point is the one further to the left, or of two in a
-- column the upper one.
abbrev pub is_forward : PointPair → Bool
is_forward stitch = int_lt stitch.from.x stitch.to.x
    || (int_eq stitch.from.x stitch.to.x && int_lt stitch.from.y stitch.to.y)

-- Of a stitch and the opposite one that which leads forward, if one does.
abbrev pub forward_stitch : PointPair → PointPair
forward_stitch stitch = if is_forward stitch then stitch else turned_stitch stitch

-- The passes forward or back, as far as they are distinguished.
abbrev pub passes_toward : Bool → Passes → ℕ
passes_toward goes_forward passes =
    if goes_forward then min passes.forward MAX_PASSES else min passes.back MAX_PASSES

-- The passes with one more forward or back.
abbrev pub with_pass : Bool → Passes → Passes
with_pass goes_forward passes =
    if goes_forward
    then record { forward = one_more (passes_toward goes_forward passes); back = passes.back }
    else record { forward = passes.forward; back = one_more (passes_toward goes_forward passes) }

-- How often each stitch was sewn in its own direction, by what is kept of the one that leads
-- forward.
abbrev pub passes_by : (PointPair → Option Passes) → PointPair → ℕ
passes_by kept stitch =
    passes_toward (is_forward stitch) (unwrap_or (kept (forward_stitch stitch)) NO_PASSES)
