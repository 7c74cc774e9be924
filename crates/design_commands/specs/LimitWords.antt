-- The limits of a review that arguments represent, as `short=3`. Of two with one key the later one
-- counts.
use Rattle.std.specs.Prelude.{ℕ, List, [], ◌∷◌, Option, Some, None, Result, Ok, Err, bytes_eq, codes, if◌then◌else◌}
use Rattle.command_words.specs.Arguments.{equals_sign, natural_within}
use Rattle.design_model.specs.WholeNumbers.{parsed_whole}
use Rattle.design_review.specs.declared.limits.ReviewLimits.{ReviewLimits}
use Rattle.design_commands.specs.declared.limit_words.LimitKey.{LimitKey}
use Rattle.design_commands.specs.declared.limit_words.LimitKey.TheVariants as key
use Rattle.design_commands.specs.declared.limit_words.TheConstants.{MAX_LIMIT}
use Rattle.design_commands.specs.declared.mistake.Misfit.TheVariants as misfit
use Rattle.program_texts.specs.MistakenWords.{MistakenWord, then_with}
use Rattle.design_commands.specs.Mistakes.{mistake_at}
use Rattle.text_parts.specs.Parts.{split_at_byte}

-- The limits where no argument gives another: stitches below 0.3 mm and above 7 mm, floats above
-- 6 mm, ties that reach 2 mm at most, and six needles in one hole.
abbrev pub usual_limits : ReviewLimits
usual_limits = record { short = 3; long = 70; float = 60; tie = 20; hole = 6 }

-- The key of a name, if it is one.
abbrev pub key_of_name : List ℕ → Option LimitKey
key_of_name name =
    if bytes_eq name (codes "short") then Some key.Short
    else (if bytes_eq name (codes "long") then Some key.Long
    else (if bytes_eq name (codes "float") then Some key.Float
    else (if bytes_eq name (codes "tie") then Some key.Tie
    else (if bytes_eq name (codes "hole") then Some key.Hole else None))))

-- Limits of which the one with that key is a number.
abbrev pub with_limit : ReviewLimits → LimitKey → ℕ → ReviewLimits
with_limit limits key.Short n = record limits { short = n }
with_limit limits key.Long n = record limits { long = n }
with_limit limits key.Float n = record limits { float = n }
with_limit limits key.Tie n = record limits { tie = n }
with_limit limits key.Hole n = record limits { hole = n }

-- The limits with the number of a key, if it is one within the range.
abbrev pub limits_if_number : ReviewLimits → List ℕ → LimitKey → Option ℕ
    → Result ReviewLimits MistakenWord
limits_if_number limits word key (Some n) = Ok (with_limit limits key n)
limits_if_number limits word key None = Err (mistake_at word misfit.LimitRange)

-- The limits with the value of a key, if the name is one.
abbrev pub limits_if_key : ReviewLimits → (word value : List ℕ) → Option LimitKey
    → Result ReviewLimits MistakenWord
limits_if_key limits word value (Some key) =
    limits_if_number limits word key (natural_within 0 MAX_LIMIT (parsed_whole value))
limits_if_key limits word value None = Err (mistake_at word misfit.NotALimit)

-- The limits with an argument, by its parts before and after the equals sign.
abbrev pub limits_by_parts : ReviewLimits → List ℕ → Option (List ℕ × List ℕ)
    → Result ReviewLimits MistakenWord
limits_by_parts limits word (Some (name, value)) =
    limits_if_key limits word value (key_of_name name)
limits_by_parts limits word None = Err (mistake_at word misfit.NotALimit)

-- The limits with an argument.
abbrev pub limits_with : ReviewLimits → List ℕ → Result ReviewLimits MistakenWord
limits_with limits word = limits_by_parts limits word (split_at_byte equals_sign word)

-- The limits with arguments in order. The first mistake determines the result.
abbrev pub parsed_limits : ReviewLimits → List (List ℕ) → Result ReviewLimits MistakenWord
parsed_limits limits [] = Ok limits
parsed_limits limits (word ∷ rest) =
    then_with (limits_with limits word) (λ next. parsed_limits next rest)
