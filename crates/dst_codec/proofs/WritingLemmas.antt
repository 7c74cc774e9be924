-- What stands after the room of a header, and the numbers that the header has of it.
use Rattle.std.proofs.Common.{◌≡◌, ℕ, ◌+◌, ◌-◌, ◌/◌, ◌^◌, ◌<◌, List, [], ◌∷◌, length, None, refl, arith, length-append}
use Rattle.std.proofs.lemmas.Nat.{div-mul-add}
use Rattle.dst_codec.proofs.Names.{nat_tests, NumberedAct, needle_position_along, acts_of, DesignValue, KeepsLimits, EncoderState, AcceptedIsWithinLimits, initial_encoder_state, first_refusal, encoder_state_after, MAX_STOPS, HEADER_LENGTH, FitsFields, header_numbers_of, dst_write_limits, dst_records_of, IsWritten}
use Rattle.format_traits.specs.ActWriting.{encoder_state_after_acts}
use Rattle.dst_codec.proofs.HeaderLemmas.{numbers_fit}
use Rattle.dst_codec.proofs.RecordCountLemmas.{records_small, records_triples}

-- and the place
pub place-encoder_state_after_acts : (limit : ℕ) (before : EncoderState) (acts : List NumberedAct)
    → (encoder_state_after_acts limit before acts).place ≡ needle_position_along before.place acts
place-encoder_state_after_acts limit before [] = refl
place-encoder_state_after_acts limit before (a ∷ rest) = place-encoder_state_after_acts limit (encoder_state_after limit before a.act) rest

-- the numbers of a design that is not refused fit
pub accepted_fit : AcceptedIsWithinLimits → (d : DesignValue) → KeepsLimits d → first_refusal dst_write_limits (acts_of d) ≡ None
    → FitsFields (header_numbers_of d)
accepted_fit small d limits passed =
    let few = small dst_write_limits d limits passed in
    let records = records_small initial_encoder_state (acts_of d) in
    let stops = few.stops MAX_STOPS refl in
    numbers_fit (acts_of d) (length (dst_records_of (acts_of d)) + 1) few.in_range
    (omega (arith, records, few.room)) (omega (arith, stops))

-- the length of the records is three times their number
pub counted : (d : DesignValue) (state : EncoderState) (count : ℕ) → IsWritten d state count
    → (count - HEADER_LENGTH) / 3 ≡ length (dst_records_of (acts_of d)) + 1
counted d state count is = grind (arith, nat_tests, is.long, length-append, records_triples, div-mul-add)

-- and these are few
pub body_short : AcceptedIsWithinLimits → (d : DesignValue) → KeepsLimits d → (state : EncoderState) (count : ℕ)
    → IsWritten d state count → (count - HEADER_LENGTH) / 3 < 2 ^ 32
body_short small d limits state count is = omega (
  arith,
  counted d state count is,
  records_small initial_encoder_state (acts_of d),
  (small dst_write_limits d limits is.passed).room,
)
