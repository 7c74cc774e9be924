-- Moves of a design: maps over its points, in whole tenths of a millimetre; x grows to the right, y
-- downwards.
use Rattle.std.specs.Prelude.{ℕ, zero, suc, ℤ, ◌+ℤ◌, neg_ℤ, not, List, Option, map}
use Rattle.std.specs.List.{position_from}
use Rattle.design_model.specs.declared.command.Command.{Command}
use Rattle.design_model.specs.declared.command.Command.TheVariants.{Stitch, Jump, Trim, Stop}
use Rattle.design_model.specs.declared.point.Point.{Point}
use Rattle.design_model.specs.Commands.{is_command_in_range}
use Rattle.design_model.specs.Designs.{DesignValue}
use Rattle.design_edits.specs.declared.axis.Axis.{Axis}
use Rattle.design_edits.specs.declared.axis.Axis.TheVariants as axis

-- A point moved to the right by dx and downwards by dy.
abbrev pub shift_point : ℤ → ℤ → Point → Point
shift_point dx dy p = record { x = p.x +ℤ dx; y = p.y +ℤ dy }

-- A point after a quarter turn about the origin, clockwise as seen.
abbrev pub quarter_point : Point → Point
quarter_point p = record { x = neg_ℤ p.y; y = p.x }

-- A point after a number of quarter turns.
abbrev pub turn_point : ℕ → Point → Point
turn_point zero p = p
turn_point (suc quarters) p = quarter_point (turn_point quarters p)

-- A point whose coordinate on an axis is negated.
abbrev pub mirror_point : Axis → Point → Point
mirror_point axis.X p = record { x = neg_ℤ p.x; y = p.y }
mirror_point axis.Y p = record { x = p.x; y = neg_ℤ p.y }

-- A command whose point, if any, is mapped.
abbrev pub with_mapped_point : (Point → Point) → Command → Command
with_mapped_point f (Stitch p) = Stitch (f p)
with_mapped_point f (Jump p) = Jump (f p)
with_mapped_point f Trim = Trim
with_mapped_point f Stop = Stop

-- A design with each point mapped.
abbrev pub with_mapped_points : (Point → Point) → DesignValue → DesignValue
with_mapped_points f d = record d { commands = map (with_mapped_point f) d.commands }

-- The shifted design.
abbrev pub shifted : ℤ → ℤ → DesignValue → DesignValue
shifted dx dy d = with_mapped_points (shift_point dx dy) d

-- The turned design.
abbrev pub turned : ℕ → DesignValue → DesignValue
turned quarters d = with_mapped_points (turn_point quarters) d

-- The mirrored design.
abbrev pub mirrored : Axis → DesignValue → DesignValue
mirrored a d = with_mapped_points (mirror_point a) d

-- The number of the first command whose point is out of its range, counted from 1, if there is one.
abbrev pub first_out_of_range : List Command → Option ℕ
first_out_of_range commands = position_from (λ c. not (is_command_in_range c)) 1 commands
