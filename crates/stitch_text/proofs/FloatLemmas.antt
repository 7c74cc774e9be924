-- Floats are never refused.
use Rattle.std.proofs.Common.{◌≡◌, Bool, true, false, List, [], ◌∷◌, Option, Some, Err, nat_lt, refl, arith}
use Rattle.stitch_text.proofs.Names.{nat_tests, ints, NumberedAct, MAX_COMMANDS, acts_of, WriteFault, EncoderState, initial_encoder_state, first_refusal, refusal_before_room, refusal_of_act, first_refusal_from, refusal_if, encoder_state_after, unless_refused, LIMIT, NoFloatIsTooLong, list_of, list_write_limits, or_else}
use Rattle.format_traits.specs.declared.fault.WriteFault.TheVariants as fault

-- the refusal is not that of a float
abbrev is_other : Option WriteFault → Bool
is_other (Some (fault.FloatTooLong number)) = false
is_other refusal = true

either_other : (one other : Option WriteFault) → is_other one ≡ true → is_other other ≡ true → is_other (or_else one other) ≡ true
either_other one other h1 h2 = grind (arith, nat_tests, ints)

-- none of any acts is
all_other : (acts : List NumberedAct) (s : EncoderState) → is_other (first_refusal_from list_write_limits s acts) ≡ true
all_other [] s = refl
all_other (a ∷ rest) s =
    let after = encoder_state_after LIMIT s a.act in
    either_other (refusal_of_act list_write_limits s a) (first_refusal_from list_write_limits after rest)
    (either_other (refusal_before_room list_write_limits s a.act a.number)
    (refusal_if (nat_lt MAX_COMMANDS after.room) (fault.TooLong a.number)) (grind (arith, nat_tests))
    (grind (arith, nat_tests, (nat_lt MAX_COMMANDS after.room), (fault.TooLong a.number))))
    (all_other rest after)

pub no_float_is_too_long : NoFloatIsTooLong
no_float_is_too_long d number is = by_refusal (first_refusal list_write_limits (acts_of d)) (all_other (acts_of d) initial_encoder_state) is
  where
    by_refusal : (r : Option WriteFault) → is_other r ≡ true → unless_refused r (list_of d) ≡ Err (fault.FloatTooLong number) → ⊥
    by_refusal r other is = grind (arith, nat_tests)
