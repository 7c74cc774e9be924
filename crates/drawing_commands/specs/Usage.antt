-- The name of the program, and its usage text.
use Rattle.std.specs.Prelude.{ℕ, List, ◌++◌, codes}
use Rattle.design_model.specs.TextLines.{newline}

-- The name of the program.
abbrev pub drawing_program_name : List ℕ
drawing_program_name = codes "stitch_drawing"

-- The usage text: the commands and their arguments.
unfoldable pub drawing_usage_text : List ℕ
drawing_usage_text = codes "usage: stitch_drawing look DRAWING [GAP]" ++ (newline
    ++ (codes "       stitch_drawing snap GAP DRAWING OUT [--keep]" ++ (newline
    ++ (codes "       stitch_drawing cross DRAWING OUT [--keep]" ++ (newline
    ++ (codes "       stitch_drawing space DRAWING OUT [length=N] [leeway=N]" ++ (newline
    ++ (codes "       stitch_drawing free DRAWING OUT" ++ (newline
    ++ (codes "       stitch_drawing near DRAWING OUT" ++ (newline
    ++ (codes "       stitch_drawing edit DRAWING OUT EDIT..." ++ (newline
    ++ (codes "       stitch_drawing --help" ++ (newline
    ++ (codes "       stitch_drawing --version" ++ newline))))))))))))))))
