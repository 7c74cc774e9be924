use Rattle.std.proofs.Common.{◌≡◌, length, map, string_bytes}
use Rattle.drawing_commands.specs.SpaceWords.{no_limits, parsed_spacing}
use Rattle.drawing_commands.proofs.space_words.parse_spacing.Given as goal

-- from the limits so far, the arguments that are left give the limits of all
abbrev pub invariant-loop-word : goal.invariant-loop-word
invariant-loop-word l = parsed_spacing l.limits (map (λ word. string_bytes word) l.rest)
    ≡ parsed_spacing no_limits (map (λ word. string_bytes word) l.words)

abbrev pub decreases-loop-word : goal.decreases-loop-word
decreases-loop-word l = length l.rest
