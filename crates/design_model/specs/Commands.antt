-- The point of a command, and its range.
use Rattle.std.specs.Prelude.{Bool, true, false, Option, Some, None}
use Rattle.design_model.specs.declared.command.Command.{Command}
use Rattle.design_model.specs.declared.command.Command.TheVariants.{Stitch, Jump, Trim, Stop}
use Rattle.design_model.specs.declared.point.Point.{Point}
use Rattle.design_model.specs.declared.point.TheConstants.{NEEDLE_LIMIT, JUMP_LIMIT}
use Rattle.design_model.specs.Points.{is_point_within}

-- The test whether the point of a command, if any, is in the range of its kind.
abbrev pub is_command_in_range : Command → Bool
is_command_in_range (Stitch p) = is_point_within NEEDLE_LIMIT p
is_command_in_range (Jump p) = is_point_within JUMP_LIMIT p
is_command_in_range Trim = true
is_command_in_range Stop = true

-- The point of a stitch or a jump, or none for a trim or a stop.
abbrev pub target_of : Command → Option Point
target_of (Stitch p) = Some p
target_of (Jump p) = Some p
target_of Trim = None
target_of Stop = None

-- A stitch or a jump moved to another point; a trim or a stop is unchanged.
abbrev pub command_with_point : Command → Point → Command
command_with_point (Stitch q) p = Stitch p
command_with_point (Jump q) p = Jump p
command_with_point Trim p = Trim
command_with_point Stop p = Stop

-- The test whether a command is a stitch or a jump and the point is in its range.
abbrev pub command_accepts_point : Command → Point → Bool
command_accepts_point (Stitch q) p = is_point_within NEEDLE_LIMIT p
command_accepts_point (Jump q) p = is_point_within JUMP_LIMIT p
command_accepts_point Trim p = false
command_accepts_point Stop p = false
