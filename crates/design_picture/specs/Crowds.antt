-- Holes with more than six needles, as `pass` of stitch_design finds them: a red square each.
use Rattle.std.specs.Prelude.{ℕ, ◌-◌, List, [], ◌∷◌, ◌++◌, Option, Some, None, codes, slice_get}
use Rattle.std.specs.List.{flat_map}
use Rattle.design_model.specs.declared.command.Command.{Command}
use Rattle.design_model.specs.declared.command.Command.TheVariants as command
use Rattle.design_model.specs.declared.point.Point.{Point}
use Rattle.design_model.specs.Designs.{DesignValue}
use Rattle.design_picture.specs.declared.crowds.TheConstants.{MIN_CROWD}
use Rattle.design_review.specs.declared.limits.ReviewLimits.{ReviewLimits}
use Rattle.design_review.specs.declared.place.DesignPlace.{DesignPlace}
use Rattle.design_review.specs.declared.place.DesignPlace.TheVariants as place
use Rattle.design_review.specs.Places.{places_of}
use Rattle.picture_parts.specs.Parts.{ended, filled, point_text}

-- The limits of a review that looks for holes alone.
abbrev pub crowd_limits : ReviewLimits
crowd_limits = record { short = 0; long = 0; float = 0; tie = 0; hole = MIN_CROWD }

-- The square around a hole with too many needles.
unfoldable pub crowd_square : Point → List ℕ
crowd_square p = filled (codes "<path fill='none' stroke='#d00' stroke-width='2' d='M@"
    ++ ended (codes "m-8,-8h16v16h-16z'/>")) (point_text p ∷ [])

-- The square of a needle's command.
abbrev pub square_of_command : Option Command → List ℕ
square_of_command None = []
square_of_command (Some (command.Stitch p)) = crowd_square p
square_of_command (Some (command.Jump p)) = []
square_of_command (Some command.Trim) = []
square_of_command (Some command.Stop) = []

-- The mark of a place of a design: a square for a hole.
abbrev pub crowd_mark : List Command → DesignPlace → List ℕ
crowd_mark commands place.NoNeedle = []
crowd_mark commands (place.Stitch number length) = []
crowd_mark commands (place.Float number length) = []
crowd_mark commands (place.Hole number needles) =
    square_of_command (slice_get commands (number - 1))
crowd_mark commands (place.UntiedStart piece) = []
crowd_mark commands (place.UntiedEnd piece) = []
crowd_mark commands (place.EmptyBlock block) = []
crowd_mark commands (place.FrameMove stop length) = []

-- The marks of the places of a design.
abbrev pub crowd_marks : List Command → List DesignPlace → List ℕ
crowd_marks commands places = flat_map (crowd_mark commands) places

-- The marks of a design's holes with more than six needles.
abbrev pub crowds_text : DesignValue → List ℕ
crowds_text d = crowd_marks d.commands (places_of crowd_limits d)
