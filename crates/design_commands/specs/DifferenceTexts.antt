-- The texts about the first difference of two designs.
use Rattle.std.specs.Prelude.{ℕ, true, false, List, ◌++◌, Option, Some, None, codes, decimal}
use Rattle.std.specs.Fmt.{signed_decimal}
use Rattle.design_model.specs.declared.act.Act.{Act}
use Rattle.design_model.specs.declared.act.Act.TheVariants as act
use Rattle.design_model.specs.declared.point.Point.{Point}
use Rattle.design_review.specs.declared.difference.ActDifference.{ActDifference}
use Rattle.design_review.specs.declared.difference.ThreadDifference.{ThreadDifference}

-- A point after a word.
abbrev pub point_after : List ℕ → Point → List ℕ
point_after word p =
    word ++ (signed_decimal p.x ++ (codes " " ++ signed_decimal p.y))

-- An act, or the end of a design.
abbrev pub compared_act_text : Option Act → List ℕ
compared_act_text (Some (act.Needle p false)) = point_after (codes "needle ") p
compared_act_text (Some (act.Needle p true)) = point_after (codes "float ") p
compared_act_text (Some act.Trim) = codes "trim"
compared_act_text (Some act.Stop) = codes "stop"
compared_act_text None = codes "end"

-- The text about two acts that differ.
abbrev pub act_difference_text : ActDifference → List ℕ
act_difference_text d = (codes "act " ++ (decimal d.number ++ codes ": "))
    ++ (compared_act_text d.first ++ (codes ", " ++ compared_act_text d.second))

-- The text about two blocks whose threads differ.
abbrev pub thread_difference_text : ThreadDifference → List ℕ
thread_difference_text d = codes "block " ++ (decimal d.block ++ (codes ": thread "
    ++ (decimal d.first ++ (codes ", " ++ decimal d.second))))
