-- Worked usage texts.
use Rattle.std.proofs.Common.{◌≡◌, ◌++◌, ◌∷◌, [], Some, None, codes, replicate, refl}
use Rattle.std.specs.Fmt.Cut.{floor_char_boundary}
use Rattle.design_model.specs.TextLines.{newline}
use Rattle.program_texts.specs.MistakenWords.{mistaken}
use Rattle.program_texts.specs.CompanionUsage.{shown_word, usage_with, version_line}

-- After a mistake a line with the argument and the reason precedes the usage text.
pub known_usage : (usage_with (codes "sew") (codes "usage: sew") (Some (mistaken (codes "rip") (codes "not a command")))
    ≡ codes "sew: rip: not a command" ++ newline ++ codes "usage: sew")
    × (usage_with (codes "sew") (codes "usage: sew") None ≡ codes "usage: sew")
    × (version_line (codes "sew") ≡ codes "sew 0.4.0" ++ newline)
known_usage = (refl, refl, refl)

-- Of a long argument 200 bytes are shown, or fewer where these would end within a character.
pub known_shown : (shown_word (replicate 200 65 ++ 66 ∷ []) ≡ replicate 200 65) × (shown_word (codes "rip") ≡ codes "rip")
    × (shown_word (replicate 199 65 ++ 195 ∷ 164 ∷ []) ≡ replicate 199 65)
    × (shown_word (replicate 198 65 ++ 195 ∷ 164 ∷ []) ≡ replicate 198 65 ++ 195 ∷ 164 ∷ [])
unfolding floor_char_boundary
known_shown = (refl, refl, refl, refl)
