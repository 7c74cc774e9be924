-- The moves of the frame at stops. A jump moves the frame without the needle: where a stop comes,
-- the frame may be away from the last needle, as at a frame-out.
use Rattle.std.specs.Prelude.{ℕ, ◌/◌, List, [], ◌∷◌}
use Rattle.design_model.specs.declared.command.Command.{Command}
use Rattle.design_model.specs.declared.command.Command.TheVariants.{Stitch, Jump, Trim, Stop}
use Rattle.design_model.specs.declared.point.Point.{Point}
use Rattle.design_model.specs.Designs.{DesignValue}
use Rattle.design_model.specs.Lengths.{length_of}
use Rattle.design_model.specs.Points.{origin}

-- The length of the line from one point to another, in tenths of a millimetre, rounded down.
abbrev pub tenths_between : Point → Point → ℕ
tenths_between p q = length_of p q / 100

-- The distances of the frame from the last needle at the stops of commands, in tenths of a
-- millimetre. Before the commands the last needle and the frame are where the points say.
abbrev pub frame_moves_from : (needle frame : Point) → List Command → List ℕ
frame_moves_from needle frame [] = []
frame_moves_from needle frame (Stitch p ∷ rest) = frame_moves_from p p rest
frame_moves_from needle frame (Jump p ∷ rest) = frame_moves_from needle p rest
frame_moves_from needle frame (Trim ∷ rest) = frame_moves_from needle frame rest
frame_moves_from needle frame (Stop ∷ rest) =
    tenths_between needle frame ∷ frame_moves_from needle frame rest

-- The distances of the frame from the last needle at the stops of a design. Needle and frame begin
-- at the origin.
abbrev pub frame_moves_of : DesignValue → List ℕ
frame_moves_of d = frame_moves_from origin origin d.commands
