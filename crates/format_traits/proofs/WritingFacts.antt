-- Worked states and bytes of acts that are written, and results that are excluded.
use Rattle.std.proofs.Common.{◌≡◌, ◌++◌, ℕ, pos, true, false, List, [], ◌∷◌, None, Some, Ok, Err, length, refl, arith, sym, true≢false}
use Rattle.design_model.specs.Labels.{IsLabel}
use Rattle.design_model.specs.declared.act.Act.TheVariants.{Needle, Trim, Stop}
use Rattle.format_traits.specs.ActWriting.{AppendsAct, AppendsActs, IsAcceptedAct}
use Rattle.format_traits.specs.declared.fault.WriteFault.TheVariants as fault
use Rattle.format_traits.proofs.MoveHopFacts.{crowded, narrow, needle, point}
use Rattle.format_traits.proofs.Names.{Act, NumberedAct, EncoderState, IsEncoderStateInRange, LabelFieldsRoundTrip, bytes_of_acts_from, encoder_state_after_acts, label_field, label_in, numbered}

-- a needle, a trim and a stop, after which the room is 11, 15 and 16
abbrev acts : List NumberedAct
acts = needle 1 (pos 121) false ∷ numbered 2 Trim ∷ numbered 3 Stop ∷ []

pub known_state : encoder_state_after_acts 121 (crowded 10) acts
    ≡ record { loose = true; place = point (pos 121) (pos 0); stops = 2; room = 16 }
known_state = refl

-- a format whose bytes of an act are the room before it
abbrev room_before : EncoderState → Act → List ℕ
room_before before a = before.room ∷ []

pub known_bytes : bytes_of_acts_from room_before 121 (crowded 10) acts ≡ 10 ∷ 11 ∷ 15 ∷ []
known_bytes = refl

-- a stitch of 121 is accepted and none of 122, whatever the room
pub known_accepted : IsAcceptedAct narrow (crowded 1000000) (Needle (point (pos 121) (pos 0)) false)
known_accepted = (7, refl)

pub known_not_accepted : IsAcceptedAct narrow (crowded 0) (Needle (point (pos 122) (pos 0)) false) → ⊥
known_not_accepted is = refused is.0 is.1
  where
    refused : (number : ℕ) → Some (fault.StitchTooLong number) ≡ None → ⊥
    refused number none = cc

-- an accepted act's bytes are added, and the state is that after it
pub known_appended : (old new : List ℕ) (after : EncoderState) (n : ℕ)
    → AppendsAct {T = ℕ} room_before narrow (crowded 10) (needle 7 (pos 121) false) old (Ok n) after new
    → (new ≡ old ++ 10 ∷ []) × (after ≡ record { loose = false; place = point (pos 121) (pos 0); stops = 1; room = 11 })
known_appended old new after n appends = (appends.1, appends.2)

-- a refused act isn't added, and an accepted one isn't refused
pub known_not_appended : (old new : List ℕ) (after : EncoderState) (n : ℕ)
    → (AppendsAct {T = ℕ} room_before narrow (crowded 1000000) (needle 7 (pos 121) false) old (Ok n) after new → ⊥)
    × (AppendsAct {T = ℕ} room_before narrow (crowded 10) (needle 7 (pos 121) false) old (Err (fault.TooLong 7)) after new → ⊥)
known_not_appended old new after n = (λ appends. some appends.0, λ is. cc)
  where
    some : Some (fault.TooLong 7) ≡ None → ⊥
    some none = cc

-- All acts are written from the beginning: the first needle at (121, 0) is loose, and has a room of 2.
pub known_all_appended : (old new : List ℕ) (state : EncoderState) → AppendsActs room_before narrow acts old (Ok state) new
    → (new ≡ old ++ 0 ∷ 2 ∷ 6 ∷ []) × (state ≡ record { loose = true; place = point (pos 121) (pos 0); stops = 1; room = 7 })
known_all_appended old new state appends = (appends.1, appends.2)

pub known_not_all_appended : (old new : List ℕ) (state : EncoderState)
    → (AppendsActs room_before narrow (needle 1 (pos 5) false ∷ needle 2 (pos 127) false ∷ []) old (Ok state) new → ⊥)
    × (AppendsActs room_before narrow acts old (Err (fault.TooManyStops 3)) new → ⊥)
known_not_all_appended old new state = (λ appends. some appends.0, λ is. cc)
  where
    some : Some (fault.StitchTooLong 2) ≡ None → ⊥
    some none = cc

-- A state in range: the needle within 30000, room for a million commands, and no more stops than room.
pub known_place : IsEncoderStateInRange (record { loose = false; place = point (pos 0) (pos 30001); stops = 1; room = 2 }) → ⊥
known_place is = true≢false (sym is.place)

pub known_room : IsEncoderStateInRange (record { loose = false; place = point (pos 0) (pos 5); stops = 1; room = 1000001 }) → ⊥
known_room is = omega (arith, is.room)

pub known_stops : IsEncoderStateInRange (record { loose = false; place = point (pos 0) (pos 5); stops = 3; room = 2 }) → ⊥
known_stops is = omega (arith, is.stops)

-- each label has a field of 16 bytes, and is read back from it
pub known_label_fields : LabelFieldsRoundTrip → (label : List ℕ) → IsLabel label
    → (length (label_field label) ≡ 16) × (label_in (label_field label) ≡ label)
known_label_fields law label is = let field = law label is in (field.places, field.back)
