-- What a decoder and a feed have read, as functions of the bytes that follow.
use Rattle.std.proofs.Common.{◌≡◌, ℕ, false, List, [], ◌∷◌, length, refl, arith}
use Rattle.format_traits.specs.FeedStates.{feed_state_of}
use Rattle.format_traits.proofs.Names.{DecodedSoFar, DecoderState, IsSameDecoderState, PassesChunk, TakesBytes}

-- the same state has the same result and the same commands
pub known_same : (one other : DecoderState) → IsSameDecoderState one other
    → (one.rest 5 (7 ∷ 8 ∷ []) ≡ other.rest 5 (7 ∷ 8 ∷ [])) × (one.decoded 5 (7 ∷ 8 ∷ []) ≡ other.decoded 5 (7 ∷ 8 ∷ []))
known_same one other is = (is.rest 5 (7 ∷ 8 ∷ []), is.decoded 5 (7 ∷ 8 ∷ []))

-- of three bytes at 100 two are taken: what follows is read from 102 on, after the third byte
pub known_taken : (old new : DecoderState) (so_far : DecodedSoFar) (more : List ℕ)
    → TakesBytes old new so_far 100 (7 ∷ 8 ∷ 9 ∷ []) 2
    → (old.rest 100 (7 ∷ 8 ∷ 9 ∷ more) ≡ new.rest 102 (9 ∷ more)) × (old.decoded 100 (7 ∷ 8 ∷ 9 ∷ more) ≡ new.decoded 102 (9 ∷ more))
    × (new.rest 102 (9 ∷ []) ≡ so_far.answer) × (new.decoded 102 (9 ∷ []) ≡ so_far.commands)
known_taken old new so_far more takes = (takes.on.rest more, takes.on.decoded more, takes.settled.answer, takes.settled.commands)

-- no more is taken than there is, and at most 527 bytes are left
pub known_taken_beyond : (old new : DecoderState) (so_far : DecodedSoFar) → TakesBytes old new so_far 100 (7 ∷ 8 ∷ 9 ∷ []) 4 → ⊥
known_taken_beyond old new so_far takes = omega (arith, takes.there)

pub known_taken_few : (old new : DecoderState) (so_far : DecodedSoFar) (bytes : List ℕ) → length bytes ≡ 530
    → TakesBytes old new so_far 100 bytes 2 → ⊥
known_taken_few old new so_far bytes long takes = omega (arith, long, takes.few)

-- After two pending bytes at 100 and a chunk of three the last byte, at 104, is pending.
pub known_passed : (old new : DecoderState) (so_far : DecodedSoFar) (more : List ℕ)
    → PassesChunk old new so_far 100 (7 ∷ 8 ∷ []) (9 ∷ 10 ∷ 11 ∷ []) (11 ∷ [])
    → (old.rest 100 (7 ∷ 8 ∷ 9 ∷ 10 ∷ 11 ∷ more) ≡ new.rest 104 (11 ∷ more))
    × (old.decoded 100 (7 ∷ 8 ∷ 9 ∷ 10 ∷ 11 ∷ more) ≡ new.decoded 104 (11 ∷ more))
    × (new.rest 104 (11 ∷ []) ≡ so_far.answer) × (new.decoded 104 (11 ∷ []) ≡ so_far.commands)
known_passed old new so_far more passes = (
  (passes.on 104 refl).rest more,
  (passes.on 104 refl).decoded more,
  (passes.settled 104 refl).answer,
  (passes.settled 104 refl).commands,
)

-- no more is pending than there was
pub known_passed_few : (old new : DecoderState) (so_far : DecodedSoFar) → PassesChunk old new so_far 100 (7 ∷ []) (9 ∷ []) (7 ∷ 8 ∷ 9 ∷ [])
    → ⊥
known_passed_few old new so_far passes = omega (arith, passes.few)

-- A feed from 100 on that took five bytes, of which two are pending, has its result so far; further bytes follow those at 103.
pub known_feed : (d : DecoderState) (so_far : DecodedSoFar)
    → ((feed_state_of d so_far 100 5 (8 ∷ 9 ∷ []) false).rest [] ≡ so_far.answer)
    × ((feed_state_of d so_far 100 5 (8 ∷ 9 ∷ []) false).decoded [] ≡ so_far.commands)
    × ((feed_state_of d so_far 100 5 (8 ∷ 9 ∷ []) false).rest (1 ∷ []) ≡ d.rest 103 (8 ∷ 9 ∷ 1 ∷ []))
    × ((feed_state_of d so_far 100 5 (8 ∷ 9 ∷ []) false).decoded (1 ∷ []) ≡ d.decoded 103 (8 ∷ 9 ∷ 1 ∷ []))
    × ((feed_state_of d so_far 100 5 (8 ∷ 9 ∷ []) false).taken ≡ 5)
    × ((feed_state_of d so_far 100 5 (8 ∷ 9 ∷ []) false).spoiled ≡ false)
known_feed d so_far = (refl, refl, refl, refl, refl, refl)
