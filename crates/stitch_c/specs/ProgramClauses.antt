-- What each program states of its runs with the five formats. `IsStitchRun` of stitch_cli is the
-- statement of `stitch`.
use Rattle.std.specs.Prelude.{ℕ, List}
use Rattle.all_formats.specs.StitchFormats.{stitch_formats}
use Rattle.design_commands.specs.Commands.{design_mistake, design_order, stitch_design_after}
use Rattle.drawing_commands.specs.Commands.{drawing_mistake, drawing_order_of, stitch_drawing_after}
use Rattle.picture_commands.specs.Orders.{picture_mistake, picture_order, picture_program_after}
use Rattle.program_shell.specs.ProgramRuns.{RunEnds}
use Rattle.program_shell.specs.RunViews.{Views}
use Rattle.program_shell.specs.declared.status.Status.{Status}

-- A run of `stitch_drawing` with these arguments ends as specified.
abbrev pub IsDrawingRun : List (List ℕ) → Views → Views → Status → Type 0
IsDrawingRun words before after s =
    RunEnds (stitch_drawing_after (drawing_mistake words)) (drawing_order_of words) before after s

-- A run of `stitch_picture` with these arguments ends as specified.
abbrev pub IsPictureRun : List (List ℕ) → Views → Views → Status → Type 0
IsPictureRun words before after s =
    RunEnds (picture_program_after (picture_mistake stitch_formats words))
    (picture_order stitch_formats words) before after s

-- A run of `stitch_design` with these arguments ends as specified.
abbrev pub IsDesignRun : List (List ℕ) → Views → Views → Status → Type 0
IsDesignRun words before after s =
    RunEnds (stitch_design_after (design_mistake stitch_formats words))
    (design_order stitch_formats words) before after s
