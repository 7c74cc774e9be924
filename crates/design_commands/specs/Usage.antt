-- The name of the program, and its usage text.
use Rattle.std.specs.Prelude.{ℕ, List, ◌++◌, codes}
use Rattle.design_model.specs.TextLines.{newline}

-- The name of the program.
abbrev pub design_program_name : List ℕ
design_program_name = codes "stitch_design"

-- The usage text: the commands and their arguments.
unfoldable pub design_usage_text : List ℕ
design_usage_text = codes "usage: stitch_design look FILE [KEY=N...]" ++ (newline
    ++ (codes "       stitch_design pass FILE [KEY=N...]" ++ (newline
    ++ (codes "       stitch_design edit IN OUT EDIT..." ++ (newline
    ++ (codes "       stitch_design compare A B [--threads]" ++ (newline
    ++ (codes "       stitch_design threads [FILE]" ++ (newline
    ++ (codes "       stitch_design --help" ++ (newline
    ++ (codes "       stitch_design --version" ++ newline))))))))))))
