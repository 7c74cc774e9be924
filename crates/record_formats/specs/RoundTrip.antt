-- The round trip in any format: the conditions on how a reader decodes encoded records, and the
-- theorem that the encoded acts of a design read back.
use Rattle.std.specs.Prelude.{◌≡◌, ℕ, suc, ◌+◌, ◌-◌, ◌<◌, ◌≤◌, Bool, true, false, ◌⊎◌, List, [], ◌∷◌, ◌++◌, length, Option, Some, None, option_map, Ok, IsTrue, if◌then◌else◌}
use Rattle.std.specs.List.{concat, list_all}
use Rattle.design_model.specs.declared.act.NumberedAct.{NumberedAct}
use Rattle.design_model.specs.declared.command.Command.{Command}
use Rattle.design_model.specs.declared.point.Point.{Point}
use Rattle.design_model.specs.declared.point.TheConstants.{NEEDLE_LIMIT, JUMP_LIMIT}
use Rattle.design_model.specs.Acts.{acts_along, acts_of, acts_without_numbers}
use Rattle.design_model.specs.Designs.{DesignValue, KeepsLimits}
use Rattle.design_model.specs.Points.{is_point_within, is_same_point, origin, move_size}
use Rattle.record_formats.specs.declared.event.Event.{Event}
use Rattle.record_formats.specs.declared.event.Event.TheVariants as event
use Rattle.format_traits.specs.declared.encoder_state.WriteLimits.{WriteLimits}
use Rattle.record_formats.specs.MoveParts.{position_after_move}
use Rattle.record_formats.specs.Records.{Records, moves_of_event, file_commands, moves_of_records, over, next}
use Rattle.format_traits.specs.Refusals.{first_refusal}
use Rattle.record_formats.specs.RecordEncodings.{RecordEncoding, is_at_max, records_of_acts}

-- The events that a reader decodes encoded records as. `max_jumps` is the number of jump records of
-- an unbroken run after which one is decoded as a trim and a jump. `trim` are the events of a trim,
-- and `run` is the run of jump records after them. `stop` is the event of a stop.
pub record EncodedEvents : Type 0 where
  pub max_jumps : Option ℕ
  pub trim : List Event
  pub run : ℕ
  pub stop : Event

-- The event of a jump record after `run` others in an unbroken run.
abbrev pub jump_event : Option ℕ → ℕ → Point → Event
jump_event max_jumps run m = if is_at_max max_jumps run then event.TrimmedJump m else event.Jump m

-- At least two jump records in a run are decoded as jumps.
abbrev pub AllowsTwoJumps : Option ℕ → Type 0
AllowsTwoJumps None = Unit {0}
AllowsTwoJumps (Some most) = 2 ≤ most

-- A run that is broken, or so long that none of its further jump records is decoded as a trim.
abbrev pub IsPastTrimmedJump : Option ℕ → ℕ → Type 0
IsPastTrimmedJump None run = Unit {0}
IsPastTrimmedJump (Some most) run = (run ≡ 0) ⊎ (most < run)

-- True where all events are jumps.
abbrev pub are_jumps : List Event → Bool
are_jumps [] = true
are_jumps (event.Jump m ∷ rest) = are_jumps rest
are_jumps _ = false

-- True where one of the events cuts the thread, and the others are jumps.
abbrev pub trims_once : List Event → Bool
trims_once (event.Jump m ∷ rest) = trims_once rest
trims_once (event.TrimmedJump m ∷ rest) = are_jumps rest
trims_once (event.Trim ∷ rest) = are_jumps rest
trims_once _ = false

-- The moves of events, in order.
abbrev pub moves_of_events : List Event → List Point
moves_of_events [] = []
moves_of_events (event ∷ rest) = moves_of_event event ++ moves_of_events rest

-- The position after moves.
abbrev pub position_after_moves : Point → List Point → Point
position_after_moves place [] = place
position_after_moves place (m ∷ rest) = position_after_moves (position_after_move place m) rest

-- The total length of moves: the sum of their sizes.
abbrev pub length_of_moves : List Point → ℕ
length_of_moves [] = 0
length_of_moves (m ∷ rest) = move_size m + length_of_moves rest

-- Events that stand for a trim: at most three, of which one cuts the thread, with small moves that
-- lead back to where they began.
pub record IsTrimSequence (limit : ℕ) (events : List Event) : Type 0 where
  pub cuts : IsTrue (trims_once events)
  pub few : length events ≤ 3
  pub back : position_after_moves origin (moves_of_events events) ≡ origin
  pub short : length_of_moves (moves_of_events events) ≤ JUMP_LIMIT - NEEDLE_LIMIT
  pub within : IsTrue (list_all (λ move. is_point_within limit move) (moves_of_events events))

-- True for a stop without a move.
abbrev pub is_stop_in_place : Event → Bool
is_stop_in_place event.Stop = true
is_stop_in_place (event.StopBy m) = is_same_point m origin
is_stop_in_place _ = false

-- The records begin with those events in order, and `rest` follows.
abbrev pub BeginWithEvents : List Event → Records → Records → Type 0
BeginWithEvents [] records rest = records ≡ rest
BeginWithEvents (event ∷ more) records rest = (at : ℕ) × (after : Records)
    × (records ≡ next at event after)
    × BeginWithEvents more after rest

-- A reader decodes each encoded record as the writer meant it, whatever bytes follow. `read` takes
-- the number of jump records in the unbroken run before the bytes.
pub record DecodesEncoding (read : ℕ → ℕ → List ℕ
    → Records) (encoding : RecordEncoding) (write_limits : WriteLimits)
    (taken : EncodedEvents) : Type 0 where
  pub stitch : (run at : ℕ) (m : Point) (rest : List ℕ)
      → IsTrue (is_point_within write_limits.limit m)
      → read run at (encoding.stitch m ++ rest)
      ≡ next at (event.Stitch m) (read 0 (at + length (encoding.stitch m)) rest)
  pub jump : (run at : ℕ) (m : Point) (rest : List ℕ)
      → IsTrue (is_point_within write_limits.limit m)
      → read run at (encoding.jump m ++ rest)
      ≡ next at (jump_event taken.max_jumps run m)
      (read (run + 1) (at + length (encoding.jump m)) rest)
  pub trim : (at : ℕ) (rest : List ℕ)
      → BeginWithEvents taken.trim (read 0 at (concat encoding.trim ++ rest))
      (read taken.run (at + length (concat encoding.trim)) rest)
  pub stop : (run at before : ℕ) (rest : List ℕ) → read run at (encoding.stop before ++ rest)
      ≡ next at taken.stop (read 0 (at + length (encoding.stop before)) rest)
  pub is_trim : IsTrimSequence write_limits.limit taken.trim
  pub is_stop : IsTrue (is_stop_in_place taken.stop)
  pub late : AllowsTwoJumps taken.max_jumps
  pub past : IsPastTrimmedJump taken.max_jumps taken.run
  pub hops : write_limits.float_hops ≡ option_map suc taken.max_jumps
  pub limit : 0 < write_limits.limit

-- The records decode to those acts, whatever the numbers of the acts; the file has an end, and each
-- move is within the limit.
pub record DecodeToActs (records : Records) (acts : List NumberedAct) (limit : ℕ) : Type 0 where
  pub commands : List Command
  pub course : file_commands records ≡ Ok (record { commands = commands; ended = true })
  pub again : acts_without_numbers (acts_along commands) ≡ acts_without_numbers acts
  pub within : IsTrue (list_all (λ move. is_point_within limit move) (moves_of_records records))

-- Theorem: the encoded acts of a design decode to the same acts, where the bytes after them are the
-- end of the file.
abbrev pub EncodedActsRoundTrip : Type 0
EncodedActsRoundTrip = (read : ℕ → ℕ → List ℕ
    → Records) (encoding : RecordEncoding) (write_limits : WriteLimits)
    (taken : EncodedEvents)
    → DecodesEncoding read encoding write_limits taken
    → (d : DesignValue) → KeepsLimits d → first_refusal write_limits (acts_of d) ≡ None
    → (at : ℕ) (rest : List ℕ) → ((run at : ℕ) → read run at rest ≡ over true)
    → DecodeToActs (read 0 at (concat (records_of_acts encoding write_limits (acts_of d)) ++ rest))
    (acts_of d) write_limits.limit
