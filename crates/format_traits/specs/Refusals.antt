-- Acts that a format cannot write. The acts are judged in order, and the first refusal is the
-- writer's answer.
use Rattle.std.specs.Prelude.{◌≡◌, ℕ, ◌+◌, ◌≤◌, IsTrue, Bool, true, false, List, [], ◌∷◌, Option, Some, None, Result, Ok, Err, nat_lt}
use Rattle.design_model.specs.declared.act.Act.{Act}
use Rattle.design_model.specs.declared.act.Act.TheVariants.{Needle, Trim, Stop}
use Rattle.design_model.specs.declared.act.NumberedAct.{NumberedAct}
use Rattle.design_model.specs.declared.design.TheConstants.{MAX_COMMANDS}
use Rattle.design_model.specs.declared.point.Point.{Point}
use Rattle.design_model.specs.declared.point.TheConstants.{NEEDLE_LIMIT}
use Rattle.design_model.specs.Points.{is_point_within, origin, move_between, move_size}
use Rattle.design_model.specs.OutOfMemory.{UnlessOutOfMemory}
use Rattle.format_traits.specs.declared.fault.WriteFault.{WriteFault}
use Rattle.format_traits.specs.declared.fault.WriteFault.TheVariants as fault
use Rattle.format_traits.specs.declared.encoder_state.WriteLimits.{WriteLimits}
use Rattle.format_traits.specs.declared.encoder_state.EncoderState.{EncoderState}
use Rattle.design_model.specs.ActPositions.{needle_position_after, leaves_thread_loose}
use Rattle.format_traits.specs.Faults.{write_is_out_of_memory}
use Rattle.format_traits.specs.MoveHops.{hops_of}
use Rattle.format_traits.specs.Rooms.{room_of_act}

-- The encoder's state before the first act: the thread is loose, and nothing is written.
abbrev pub initial_encoder_state : EncoderState
initial_encoder_state = record { loose = true; place = origin; stops = 0; room = 0 }

-- The number of stops in one act: 1 for a stop, else 0.
abbrev pub stops_in : Act → ℕ
stops_in (Needle p float) = 0
stops_in Trim = 0
stops_in Stop = 1

-- The number of stops among acts.
abbrev pub stops_of : List NumberedAct → ℕ
stops_of [] = 0
stops_of (a ∷ rest) = stops_in a.act + stops_of rest

-- The encoder's state after an act.
abbrev pub encoder_state_after : ℕ → EncoderState → Act → EncoderState
encoder_state_after limit before act = record {
  loose = leaves_thread_loose act;
  place = needle_position_after before.place act;
  stops = before.stops + stops_in act;
  room = before.room + room_of_act limit before.loose before.place act;
}

-- An encoder state in range: the needle's position is in range, the room is within a design's, and
-- the stops are at most the room.
pub record IsEncoderStateInRange (state : EncoderState) : Type 0 where
  pub place : IsTrue (is_point_within NEEDLE_LIMIT state.place)
  pub room : state.room ≤ MAX_COMMANDS
  pub stops : state.stops ≤ state.room

-- True where a number is above the maximum, if there is one.
abbrev pub is_above_max : Option ℕ → ℕ → Bool
is_above_max None n = false
is_above_max (Some most) n = nat_lt most n

-- The refusal `f` where the test is true.
abbrev pub refusal_if : Bool → WriteFault → Option WriteFault
refusal_if true f = Some f
refusal_if false f = None

-- The refusal of a needle by its move: none for a loose needle, one for a float of too many hops,
-- and one for a stitch beyond the limit.
abbrev pub refusal_of_needle : WriteLimits → Bool → Bool → Point → ℕ → Option WriteFault
refusal_of_needle write_limits true float m number = None
refusal_of_needle write_limits false true m number =
    refusal_if (is_above_max write_limits.float_hops (hops_of write_limits.limit m))
    (fault.FloatTooLong number)
refusal_of_needle write_limits false false m number =
    refusal_if (nat_lt write_limits.limit (move_size m)) (fault.StitchTooLong number)

-- The refusal of an act before its room is counted: of a needle by its move, of a stop by the
-- number of stops.
abbrev pub refusal_before_room : WriteLimits → EncoderState → Act → ℕ → Option WriteFault
refusal_before_room write_limits before (Needle p float) number =
    refusal_of_needle write_limits before.loose float (move_between before.place p) number
refusal_before_room write_limits before Trim number = None
refusal_before_room write_limits before Stop number =
    refusal_if (is_above_max write_limits.stops (before.stops + 1)) (fault.TooManyStops number)

-- The first of two refusals.
abbrev pub or_else : Option WriteFault → Option WriteFault → Option WriteFault
or_else None other = other
or_else (Some f) other = Some f

-- The refusal of an act: by the act itself, else by the room of all acts up to it.
abbrev pub refusal_of_act : WriteLimits → EncoderState → NumberedAct → Option WriteFault
refusal_of_act write_limits before a = or_else
    (refusal_before_room write_limits before a.act a.number)
    (refusal_if (nat_lt MAX_COMMANDS (encoder_state_after write_limits.limit before a.act).room)
    (fault.TooLong a.number))

-- The first refusal among acts, from a state of the encoder on.
abbrev pub first_refusal_from : WriteLimits → EncoderState → List NumberedAct → Option WriteFault
first_refusal_from write_limits before [] = None
first_refusal_from write_limits before (a ∷ rest) = or_else (refusal_of_act write_limits before a)
    (first_refusal_from write_limits (encoder_state_after write_limits.limit before a.act) rest)

-- The first refusal among the acts of a design.
abbrev pub first_refusal : WriteLimits → List NumberedAct → Option WriteFault
first_refusal write_limits acts = first_refusal_from write_limits initial_encoder_state acts

-- The bytes, or the refusal where there is one.
abbrev pub unless_refused : Option WriteFault → List ℕ → Result (List ℕ) WriteFault
unless_refused None bytes = Ok bytes
unless_refused (Some f) bytes = Err f

-- The fault is the specified refusal, or out of memory.
abbrev pub IsSpecifiedRefusal : Option WriteFault → WriteFault → Type 0
IsSpecifiedRefusal refusal fault = UnlessOutOfMemory (write_is_out_of_memory fault) (refusal
    ≡ Some fault)
