-- The state of a decoder, as two functions of the remaining bytes of the file, given from an offset
-- on.
use Rattle.std.specs.Prelude.{◌≡◌, ℕ, ◌+◌, ◌<◌, ◌≤◌, List, ◌++◌, length, drop, Result}
use Rattle.design_model.specs.declared.command.Command.{Command}
use Rattle.format_traits.specs.declared.decoder.TheConstants.{MAX_PENDING}
use Rattle.format_traits.specs.declared.fault.ReadFault.{ReadFault}
use Rattle.format_traits.specs.declared.loaded.Loaded.{Loaded}

-- A decoder state: the result of the file (`rest`) and its commands (`decoded`), as functions of an
-- offset and of the remaining bytes from there on.
pub record DecoderState : Type 0 where
  pub rest : ℕ → List ℕ → Result Loaded ReadFault
  pub decoded : ℕ → List ℕ → List Command

-- What a decoder has read: the result of the file if it ends here, and the commands so far.
pub record DecodedSoFar : Type 0 where
  pub answer : Result Loaded ReadFault
  pub commands : List Command

-- A record boundary: the remaining bytes at the offset add nothing to what was read.
pub record IsAtRecordBoundary (decoder_state : DecoderState) (so_far : DecodedSoFar) (at : ℕ)
    (bytes : List ℕ) : Type 0 where
  pub answer : decoder_state.rest at bytes ≡ so_far.answer
  pub commands : decoder_state.decoded at bytes ≡ so_far.commands

-- Two decoder states with the same result and the same commands for all remaining bytes.
pub record IsSameDecoderState (one other : DecoderState) : Type 0 where
  pub rest : (at : ℕ) (bytes : List ℕ) → one.rest at bytes ≡ other.rest at bytes
  pub decoded : (at : ℕ) (bytes : List ℕ) → one.decoded at bytes ≡ other.decoded at bytes

-- For any bytes that follow, the state `one` with `before` at an offset equals the state `other`
-- with `after` at another offset.
pub record ContinuesAs (one other : DecoderState) (at there : ℕ) (before after : List ℕ) : Type 0
  where
    pub rest : (more : List ℕ) → one.rest at (before ++ more) ≡ other.rest there (after ++ more)
    pub decoded : (more : List ℕ) → one.decoded at (before ++ more)
        ≡ other.decoded there (after ++ more)

-- A decoder took `size` of the bytes at an offset. The bytes that are left are few, and add nothing
-- yet.
pub record TakesBytes (old new : DecoderState) (so_far : DecodedSoFar) (at : ℕ) (bytes : List ℕ)
    (size : ℕ) : Type 0 where
  pub there : size ≤ length bytes
  pub few : length bytes < size + MAX_PENDING
  pub on : ContinuesAs old new at (at + size) bytes (drop size bytes)
  pub settled : IsAtRecordBoundary new so_far (at + size) (drop size bytes)

-- A chunk was passed on after the bytes that were pending at an offset. The bytes that are pending
-- then end where the chunk ends.
pub record PassesChunk (old new : DecoderState) (so_far : DecodedSoFar) (at : ℕ)
    (before chunk after : List ℕ) : Type 0 where
  pub few : length after ≤ length before + length chunk
  pub on : (there : ℕ) → there + length after ≡ at + length before + length chunk
      → ContinuesAs old new at there (before ++ chunk) after
  pub settled : (there : ℕ) → there + length after ≡ at + length before + length chunk
      → IsAtRecordBoundary new so_far there after
