-- The usage text.
use Rattle.std.specs.Prelude.{ℕ, List, ◌++◌, codes}
use Rattle.design_model.specs.TextLines.{newline}

-- The usage text: the commands and their arguments.
abbrev pub usage_text : List ℕ
usage_text = codes "usage: stitch route DRAWING OUT CERT" ++ newline
    ++ codes "       stitch check DRAWING FILE CERT" ++ newline
    ++ codes "       stitch convert IN OUT [--split] [--cut]" ++ newline
    ++ codes "       stitch show FILE" ++ newline
    ++ codes "       stitch edit IN OUT EDIT..." ++ newline
    ++ codes "       stitch hoop FILE WIDTH HEIGHT" ++ newline
    ++ codes "       stitch sample N DRAWING" ++ newline
    ++ codes "       stitch migrate DRAWING OUT" ++ newline
    ++ codes "       stitch trace FILE DRAWING" ++ newline
    ++ codes "       stitch double DRAWING OUT CERT" ++ newline
