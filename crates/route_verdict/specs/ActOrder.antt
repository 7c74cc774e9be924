-- The first act in which two lists of acts differ. Acts are numbered from 1.
use Rattle.std.specs.Prelude.{ℕ, ◌+◌, Bool, true, false, not, ◌&&◌, List, [], ◌∷◌, Option, Some, None, if◌then◌else◌}
use Rattle.design_model.specs.declared.act.Act.{Act}
use Rattle.design_model.specs.declared.act.Act.TheVariants as act
use Rattle.design_model.specs.Points.{is_same_point}

-- Two truth values are equal.
abbrev pub are_equal_bools : Bool → Bool → Bool
are_equal_bools true other = other
are_equal_bools false other = not other

-- Two acts are equal. Needle acts are equal if they have equal points and both or neither are
-- floats.
abbrev pub is_same_act : Act → Act → Bool
is_same_act (act.Needle p float) (act.Needle q other) =
    is_same_point p q && are_equal_bools float other
is_same_act (act.Needle p float) act.Trim = false
is_same_act (act.Needle p float) act.Stop = false
is_same_act act.Trim (act.Needle q other) = false
is_same_act act.Trim act.Trim = true
is_same_act act.Trim act.Stop = false
is_same_act act.Stop (act.Needle q other) = false
is_same_act act.Stop act.Trim = false
is_same_act act.Stop act.Stop = true

-- The number of the first act in which two lists differ, where their first acts have the given
-- number. If one list is the beginning of the other, it is the number after the shorter list.
abbrev pub first_differing_act : ℕ → List Act → List Act → Option ℕ
first_differing_act number [] [] = None
first_differing_act number [] (b ∷ others) = Some number
first_differing_act number (a ∷ acts) [] = Some number
first_differing_act number (a ∷ acts) (b ∷ others) =
    if is_same_act a b then first_differing_act (number + 1) acts others else Some number
