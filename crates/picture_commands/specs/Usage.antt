-- The name of the program, and its usage text.
use Rattle.std.specs.Prelude.{ℕ, List, ◌++◌, codes}
use Rattle.design_model.specs.TextLines.{newline}

-- The name of the program.
abbrev pub picture_program_name : List ℕ
picture_program_name = codes "stitch_picture"

-- The usage text: what the arguments are.
abbrev pub picture_usage : List ℕ
picture_usage = codes "usage: stitch_picture FILE OUT.svg [WIDTH HEIGHT] [size=WxH]" ++ (newline
    ++ (codes "       stitch_picture FILE OUT.svg plain[=RRGGBB] [size=WxH]" ++ (newline
    ++ (codes "       stitch_picture DRAWING OUT.svg [size=WxH]" ++ (newline
    ++ (codes "       stitch_picture DRAWING CERT OUT.svg [size=WxH]" ++ (newline
    ++ (codes "       stitch_picture --help" ++ (newline
    ++ (codes "       stitch_picture --version" ++ newline))))))))))
