-- The lines of acts, act by act.
use Rattle.std.proofs.Common.{◌≡◌, ℕ, List, [], ◌∷◌, ◌++◌, refl, arith, codes}
use Rattle.std.proofs.lemmas.List.{append_assoc}
use Rattle.stitch_text.proofs.Names.{nat_tests, NumberedAct, EncoderState, encoder_state_after, initial_encoder_state, LIMIT, act_line, act_lines}
use Rattle.format_traits.specs.ActWriting.{bytes_of_acts_from}

-- the lines of acts and the last line
joined : (thread : ℕ → ℕ) (before : EncoderState) (acts : List NumberedAct)
    → bytes_of_acts_from (λ before act. act_line thread before.stops act ++ 10 ∷ []) LIMIT before acts ++ codes "end\n"
    ≡ act_lines thread before.stops acts
joined thread before [] = refl
joined thread before (a ∷ rest) = grind (arith, nat_tests, append_assoc, (joined thread (encoder_state_after LIMIT before a.act) rest))

pub lines_put : (thread : ℕ → ℕ) (acts : List NumberedAct) (old middle new : List ℕ)
    → middle ≡ old ++ bytes_of_acts_from (λ before act. act_line thread before.stops act ++ 10 ∷ []) LIMIT initial_encoder_state acts
    → new ≡ middle ++ codes "end\n" → new ≡ old ++ act_lines thread 0 acts
lines_put thread acts old middle new h1 h2 = grind (arith, nat_tests, append_assoc, (joined thread initial_encoder_state acts))
