-- What arguments of `space` give of its rule: `length=N` and `leeway=N`, in tenths of a millimetre.
-- Of two with one key the later one counts.
use Rattle.std.specs.Prelude.{ℕ, List, [], ◌∷◌, Option, Some, None, Result, Ok, Err, bytes_eq, codes, if◌then◌else◌}
use Rattle.program_texts.specs.MistakenWords.{MistakenWord, then_with}
use Rattle.command_words.specs.Arguments.{equals_sign, natural_within}
use Rattle.design_model.specs.WholeNumbers.{parsed_whole}
use Rattle.spaced_lines.specs.declared.spacing_rule.SpacingLimits.{SpacingLimits}
use Rattle.text_parts.specs.Parts.{split_at_byte}
use Rattle.drawing_commands.specs.declared.mistake.Misfit.TheVariants as misfit
use Rattle.drawing_commands.specs.declared.space_words.TheConstants.{MAX_LEEWAY, MAX_LENGTH}
use Rattle.drawing_commands.specs.Mistakes.{mistake_at}

-- The limits where no argument gives one.
abbrev pub no_limits : SpacingLimits
no_limits = record { length = None; leeway = None }

-- Limits with a length, if it is within its range.
abbrev pub limits_with_length : SpacingLimits → (word : List ℕ) → Option ℕ
    → Result SpacingLimits MistakenWord
limits_with_length limits word (Some n) = Ok (record limits { length = Some n })
limits_with_length limits word None = Err (mistake_at word misfit.LengthRange)

-- Limits with a leeway, if it is within its range.
abbrev pub limits_with_leeway : SpacingLimits → (word : List ℕ) → Option ℕ
    → Result SpacingLimits MistakenWord
limits_with_leeway limits word (Some n) = Ok (record limits { leeway = Some n })
limits_with_leeway limits word None = Err (mistake_at word misfit.LeewayRange)

-- Limits with the value of a key.
abbrev pub limits_by_key : SpacingLimits → (word key value : List ℕ)
    → Result SpacingLimits MistakenWord
limits_by_key limits word key value =
    if bytes_eq key (codes "length")
    then limits_with_length limits word (natural_within 1 MAX_LENGTH (parsed_whole value))
    else (if bytes_eq key (codes "leeway")
    then limits_with_leeway limits word (natural_within 0 MAX_LEEWAY (parsed_whole value))
    else Err (mistake_at word misfit.NotUnderstood))

-- Limits with an argument, by its parts before and after the equals sign.
abbrev pub limits_by_parts : SpacingLimits → (word : List ℕ) → Option (List ℕ × List ℕ)
    → Result SpacingLimits MistakenWord
limits_by_parts limits word (Some (key, value)) = limits_by_key limits word key value
limits_by_parts limits word None = Err (mistake_at word misfit.NotUnderstood)

-- Limits with an argument.
abbrev pub limits_with_word : SpacingLimits → List ℕ → Result SpacingLimits MistakenWord
limits_with_word limits word = limits_by_parts limits word (split_at_byte equals_sign word)

-- Limits with arguments in order. The first mistake determines the result.
abbrev pub parsed_spacing : SpacingLimits → List (List ℕ) → Result SpacingLimits MistakenWord
parsed_spacing limits [] = Ok limits
parsed_spacing limits (word ∷ rest) =
    then_with (limits_with_word limits word) (λ next. parsed_spacing next rest)
