-- What the steps of reading and writing a PEC block exclude.
use Rattle.std.proofs.Common.{◌≡◌, ◌++◌, ℕ, pos, List, [], ◌∷◌, None, Some, Ok, Err, length, arith, sym, true, true≢false}
use Rattle.design_model.specs.declared.command.Command.TheVariants as command
use Rattle.format_traits.specs.declared.fault.WriteFault.TheVariants as write
use Rattle.record_formats.specs.declared.event.Event.TheVariants as event
use Rattle.record_formats.specs.declared.record_reader.NextRecord.TheVariants as cut
use Rattle.pec_codec.proofs.WritingFacts.{blocks, point, sewn, square}
use Rattle.pec_codec.proofs.Names.{AppendsBody, RecordFitsBytes}

-- a record has a byte, is within the bytes, and moves no farther than any record may
pub known_record : (RecordFitsBytes (1 ∷ 2 ∷ 3 ∷ []) (cut.Record event.Trim 0) → ⊥)
    × (RecordFitsBytes (1 ∷ 2 ∷ 3 ∷ []) (cut.Record event.Trim 4) → ⊥)
    × (RecordFitsBytes (1 ∷ 2 ∷ 3 ∷ []) (cut.Record (event.Jump (point (pos 2049) (pos 0))) 2) → ⊥)
known_record = (λ fits. omega (arith, fits.0), λ fits. omega (arith, fits.1), λ fits. true≢false (sym fits.2))

-- bytes without a complete record are fewer than the longest record has
pub known_incomplete : (bytes : List ℕ) → length bytes ≡ 5 → RecordFitsBytes bytes (cut.Incomplete true) → ⊥
known_incomplete bytes long few = omega (arith, long, few)

-- the records of a square and their end are added, and the stops of three blocks are two
pub known_body : (old new : List ℕ) (stops : ℕ) → AppendsBody square old (Ok stops) new
    → (new ≡ old ++ 0x00 ∷ 0x00 ∷ 0x1E ∷ 0x00 ∷ 0x00 ∷ 0x1E ∷ 0x62 ∷ 0x00 ∷ 0x00 ∷ 0x62 ∷ 0xA0 ∷ 0x00 ∷ 0xA0 ∷ 0x00 ∷ 0xFF ∷ [])
    × (stops ≡ 0)
known_body old new stops appends = (appends.1, appends.2)

pub known_stops : (old new : List ℕ) (stops : ℕ) → AppendsBody blocks old (Ok stops) new → stops ≡ 2
known_stops old new stops appends = appends.2

-- a stitch of 2048 is refused, and a square isn't
pub known_refused : (old new : List ℕ) (stops : ℕ)
    → (AppendsBody (sewn (command.Stitch (point (pos 0) (pos 0)) ∷ command.Stitch (point (pos 2048) (pos 0)) ∷ [])) old (Ok stops) new → ⊥)
    × (AppendsBody square old (Err (write.TooLong 1)) new → ⊥)
known_refused old new stops = (λ appends. some appends.0, λ is. cc)
  where
    some : Some (write.StitchTooLong 2) ≡ None → ⊥
    some none = cc
