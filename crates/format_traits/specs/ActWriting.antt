-- Writing the acts of a design in order. A format defines the bytes of an act, by the encoder's
-- state before it.
use Rattle.std.specs.Prelude.{◌≡◌, ℕ, List, [], ◌∷◌, ◌++◌, None, Result, Ok, Err}
use Rattle.design_model.specs.declared.act.Act.{Act}
use Rattle.design_model.specs.declared.act.NumberedAct.{NumberedAct}
use Rattle.format_traits.specs.declared.fault.WriteFault.{WriteFault}
use Rattle.format_traits.specs.declared.encoder_state.WriteLimits.{WriteLimits}
use Rattle.format_traits.specs.declared.encoder_state.EncoderState.{EncoderState}
use Rattle.format_traits.specs.Refusals.{initial_encoder_state, encoder_state_after, refusal_before_room, refusal_of_act, first_refusal, IsSpecifiedRefusal}

-- The encoder's state after acts, from a state on.
abbrev pub encoder_state_after_acts : ℕ → EncoderState → List NumberedAct → EncoderState
encoder_state_after_acts limit before [] = before
encoder_state_after_acts limit before (a ∷ rest) = encoder_state_after_acts limit
    (encoder_state_after limit before a.act) rest

-- The bytes of acts in order, from a state of the encoder on.
abbrev pub bytes_of_acts_from : (EncoderState → Act → List ℕ) → ℕ → EncoderState
    → List NumberedAct → List ℕ
bytes_of_acts_from act_bytes limit before [] = []
bytes_of_acts_from act_bytes limit before (a ∷ rest) = act_bytes before a.act
    ++ bytes_of_acts_from act_bytes limit (encoder_state_after limit before a.act) rest

-- An act that is not refused before its room is counted.
abbrev pub IsAcceptedAct : WriteLimits → EncoderState → Act → Type 0
IsAcceptedAct write_limits before act = (number : ℕ)
    × (refusal_before_room write_limits before act number ≡ None)

-- Meaning of each answer of appending an act to bytes.
abbrev pub AppendsAct : {T : Type 0} → (EncoderState → Act → List ℕ) → WriteLimits → EncoderState
    → NumberedAct → List ℕ → Result T WriteFault → EncoderState → List ℕ → Type 0
AppendsAct act_bytes write_limits before a old (Ok _) after new =
    (refusal_of_act write_limits before a ≡ None)
    × (new ≡ old ++ act_bytes before a.act)
    × (after ≡ encoder_state_after write_limits.limit before a.act)
AppendsAct act_bytes write_limits before a old (Err f) after new = IsSpecifiedRefusal
    (refusal_of_act write_limits before a) f

-- Meaning of each answer of appending all acts to bytes.
abbrev pub AppendsActs : (EncoderState → Act → List ℕ) → WriteLimits → List NumberedAct → List ℕ
    → Result EncoderState WriteFault → List ℕ → Type 0
AppendsActs act_bytes write_limits acts old (Ok state) new =
    (first_refusal write_limits acts ≡ None)
    × (new ≡ old ++ bytes_of_acts_from act_bytes write_limits.limit initial_encoder_state acts)
    × (state ≡ encoder_state_after_acts write_limits.limit initial_encoder_state acts)
AppendsActs act_bytes write_limits acts old (Err f) new = IsSpecifiedRefusal
    (first_refusal write_limits acts) f
