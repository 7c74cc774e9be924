-- The state of a feed, computed from the state of its decoder and from the pending bytes.
use Rattle.std.specs.Prelude.{ℕ, ◌+◌, ◌-◌, Bool, List, [], ◌∷◌, ◌++◌, length, Result}
use Rattle.design_model.specs.declared.command.Command.{Command}
use Rattle.format_traits.specs.declared.fault.ReadFault.{ReadFault}
use Rattle.format_traits.specs.declared.loaded.Loaded.{Loaded}
use Rattle.format_traits.specs.Feeding.{FeedState}
use Rattle.format_traits.specs.DecoderStates.{DecodedSoFar, DecoderState}

-- The result of the file as a function of the remaining bytes, which follow the pending ones.
abbrev pub feed_rest : DecoderState → DecodedSoFar → ℕ → List ℕ → List ℕ → Result Loaded ReadFault
feed_rest decoder_state so_far at pending [] = so_far.answer
feed_rest decoder_state so_far at pending (byte ∷ more) = decoder_state.rest at
    (pending ++ byte ∷ more)

-- The commands of the file as a function of the remaining bytes, which follow the pending ones.
abbrev pub feed_decoded : DecoderState → DecodedSoFar → ℕ → List ℕ → List ℕ → List Command
feed_decoded decoder_state so_far at pending [] = so_far.commands
feed_decoded decoder_state so_far at pending (byte ∷ more) = decoder_state.decoded at
    (pending ++ byte ∷ more)

-- The state of a feed whose first byte has the offset `start`: `taken` bytes were fed, and the last
-- of them are pending.
abbrev pub feed_state_of : DecoderState → DecodedSoFar → (start taken : ℕ) → List ℕ → Bool
    → FeedState
feed_state_of decoder_state so_far start taken pending spoiled = record {
  spoiled = spoiled;
  taken = taken;
  rest = feed_rest decoder_state so_far (start + (taken - length pending)) pending;
  decoded = feed_decoded decoder_state so_far (start + (taken - length pending)) pending;
}
