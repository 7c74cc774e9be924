-- Plain acts are not refused, and acts that are not refused have little room and few stops.
use Rattle.std.proofs.Common.{◌≡◌, ℕ, ◌+◌, ◌≤◌, false, IsTrue, List, [], ◌∷◌, Some, None, nat_lt, refl, subst, arith}
use Rattle.format_traits.proofs.Names.{nat_tests, Act, NumberedAct, leaves_thread_loose, WriteLimits, EncoderState, are_plain_from, stops_of, encoder_state_after, refusal_if, refusal_of_act, first_refusal_from, and_parts, ltb-false, le-ltb, MAX_COMMANDS, needle_position_after, is_plain_act, stops_in, is_above_max, refusal_before_room, room_from}
use Rattle.design_model.specs.declared.act.Act.TheVariants as act
use Rattle.format_traits.specs.declared.fault.WriteFault.TheVariants as fault
use Rattle.format_traits.proofs.CallerLemmas.{not_refused, or_else_both, or_else_none, refused_not}

-- n stops may be written
abbrev pub Allows : WriteLimits → ℕ → Type 0
Allows write_limits most = (count : ℕ) → count ≤ most → is_above_max write_limits.stops count ≡ false

-- nor are all of them, where there is room
pub plain_passes : (write_limits : WriteLimits) (most : ℕ) → Allows write_limits most → (acts : List NumberedAct) (s : EncoderState)
    → IsTrue (are_plain_from write_limits.limit s.loose s.place acts) → s.stops + stops_of acts ≤ most
    → s.room + room_from write_limits.limit s.loose s.place acts ≤ MAX_COMMANDS → first_refusal_from write_limits s acts ≡ None
plain_passes write_limits most allows [] s plain few small = refl
plain_passes write_limits most allows (a ∷ rest) s plain few small =
    let after = encoder_state_after write_limits.limit s a.act in
    let both = and_parts (is_plain_act write_limits.limit s.loose s.place a.act)
    (are_plain_from write_limits.limit (leaves_thread_loose a.act) (needle_position_after s.place a.act) rest) plain in
    let fits : after.room ≤ MAX_COMMANDS = omega (arith, small) in
    or_else_both (refusal_of_act write_limits s a) (first_refusal_from write_limits after rest)
    (or_else_both (refusal_before_room write_limits s a.act a.number)
    (refusal_if (nat_lt MAX_COMMANDS after.room) (fault.TooLong a.number))
    (grind (arith, nat_tests, both.0, few))
    (refused_not (nat_lt MAX_COMMANDS after.room) (fault.TooLong a.number) (le-ltb MAX_COMMANDS after.room fits)))
    (plain_passes write_limits most allows rest after both.1 (omega (arith, few)) (omega (arith, small)))

-- acts that are not refused have few stops
pub few_stops : (write_limits : WriteLimits) (most : ℕ) → write_limits.stops ≡ Some most → (acts : List NumberedAct) (s : EncoderState)
    → first_refusal_from write_limits s acts ≡ None → s.stops ≤ most → s.stops + stops_of acts ≤ most
few_stops write_limits most is [] s passed few = omega (arith, few)
few_stops write_limits most is (a ∷ rest) s passed few =
    let after = encoder_state_after write_limits.limit s a.act in
    let first = or_else_none (refusal_of_act write_limits s a) (first_refusal_from write_limits after rest) passed in
    let own = or_else_none (refusal_before_room write_limits s a.act a.number)
    (refusal_if (nat_lt MAX_COMMANDS after.room) (fault.TooLong a.number)) first.0 in
    let one : s.stops + stops_in a.act ≤ most = one_stop a.act s a.number own.0 few in
    let more = few_stops write_limits most is rest after first.1 one in
    omega (arith, more)
  where
    one_stop : (a : Act) (s : EncoderState) (number : ℕ) → refusal_before_room write_limits s a number ≡ None → s.stops ≤ most
        → s.stops + stops_in a ≤ most
    one_stop (act.Needle p float) s number passed few = omega (arith, few)
    one_stop act.Trim s number passed few = omega (arith, few)
    one_stop act.Stop s number passed few =
        let short = not_refused (is_above_max write_limits.stops (s.stops + 1)) (fault.TooManyStops number) passed in
        ltb-false most (s.stops + 1) (subst (λ stops. is_above_max stops (s.stops + 1) ≡ false) is short)

-- and little room
pub small_room : (write_limits : WriteLimits) (acts : List NumberedAct) (s : EncoderState) → first_refusal_from write_limits s acts ≡ None
    → s.room ≤ MAX_COMMANDS → s.room + room_from write_limits.limit s.loose s.place acts ≤ MAX_COMMANDS
small_room write_limits [] s passed small = omega (arith, small)
small_room write_limits (a ∷ rest) s passed small =
    let after = encoder_state_after write_limits.limit s a.act in
    let first = or_else_none (refusal_of_act write_limits s a) (first_refusal_from write_limits after rest) passed in
    let own = or_else_none (refusal_before_room write_limits s a.act a.number)
    (refusal_if (nat_lt MAX_COMMANDS after.room) (fault.TooLong a.number)) first.0 in
    let fits : after.room ≤ MAX_COMMANDS = ltb-false MAX_COMMANDS after.room
    (not_refused (nat_lt MAX_COMMANDS after.room) (fault.TooLong a.number) own.1) in
    omega (arith, small_room write_limits rest after first.1 fits)
