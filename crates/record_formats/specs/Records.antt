-- The records of a file, in any format, and the commands that are computed from them. Each record
-- begins at an offset of the file and stands for one event.
use Rattle.std.specs.Prelude.{ℕ, ◌+◌, Bool, true, false, ◌&&◌, List, [], ◌∷◌, ◌++◌, length, nat_le, nat_lt, Result, Ok, Err, if◌then◌else◌}
use Rattle.std.specs.List.{list_all}
use Rattle.design_model.specs.declared.command.Command.{Command}
use Rattle.design_model.specs.declared.command.Command.TheVariants as command
use Rattle.design_model.specs.declared.design.TheConstants.{MAX_COMMANDS}
use Rattle.design_model.specs.declared.point.Point.{Point}
use Rattle.design_model.specs.Commands.{is_command_in_range}
use Rattle.design_model.specs.Points.{origin, is_same_point}
use Rattle.record_formats.specs.declared.event.Event.{Event}
use Rattle.record_formats.specs.declared.event.Event.TheVariants as event
use Rattle.format_traits.specs.declared.fault.ReadFault.{ReadFault}
use Rattle.record_formats.specs.MoveParts.{position_after_move}
use Rattle.record_formats.specs.Readings.{FileCommands, checked_commands}

-- The records of a file in order, up to its end or its first refusal; `ended` is true where the
-- file has an end.
pub data Records : Type 0 where
  over : (ended : Bool) → Records
  refused : (f : ReadFault) → Records
  next : (at : ℕ) (event : Event) (rest : Records) → Records

-- The commands of a stop with a move: a stop, and a jump unless the move is (0, 0).
abbrev pub stop_commands : Point → Point → List Command
stop_commands m there = if is_same_point m origin then command.Stop ∷ []
    else command.Stop ∷ command.Jump there ∷ []

-- The position of the hoop after an event.
abbrev pub position_after_event : Event → Point → Point
position_after_event (event.Stitch m) place = position_after_move place m
position_after_event (event.Jump m) place = position_after_move place m
position_after_event (event.TrimmedJump m) place = position_after_move place m
position_after_event event.Trim place = place
position_after_event event.Stop place = place
position_after_event (event.StopBy m) place = position_after_move place m

-- The commands of an event after which the hoop is at the position `there`.
abbrev pub event_commands_at : Event → Point → List Command
event_commands_at (event.Stitch m) there = command.Stitch there ∷ []
event_commands_at (event.Jump m) there = command.Jump there ∷ []
event_commands_at (event.TrimmedJump m) there = command.Trim ∷ command.Jump there ∷ []
event_commands_at event.Trim there = command.Trim ∷ []
event_commands_at event.Stop there = command.Stop ∷ []
event_commands_at (event.StopBy m) there = stop_commands m there

-- True for an event that cuts the thread or stops.
abbrev pub trims_or_stops : Event → Bool
trims_or_stops (event.Stitch m) = false
trims_or_stops (event.Jump m) = false
trims_or_stops (event.TrimmedJump m) = true
trims_or_stops event.Trim = true
trims_or_stops event.Stop = true
trims_or_stops (event.StopBy m) = true

-- The commands of an event, by the position before it.
abbrev pub commands_of_event : Event → Point → List Command
commands_of_event event place = event_commands_at event (position_after_event event place)

-- The move of an event, as a list that is empty where the event has none.
abbrev pub moves_of_event : Event → List Point
moves_of_event (event.Stitch m) = m ∷ []
moves_of_event (event.Jump m) = m ∷ []
moves_of_event (event.TrimmedJump m) = m ∷ []
moves_of_event event.Trim = []
moves_of_event event.Stop = []
moves_of_event (event.StopBy m) = m ∷ []

-- The result of records after `count` commands, from a position on.
abbrev pub file_commands_from : ℕ → Point → Records → Result FileCommands ReadFault
file_commands_from count place (over ended) = Ok (record { commands = []; ended = ended })
file_commands_from count place (refused f) = Err f
file_commands_from count place (next at event rest) =
    let commands = commands_of_event event place in
    checked_commands at count commands
    (file_commands_from (count + length commands) (position_after_event event place) rest)

-- The result of all records of a file.
abbrev pub file_commands : Records → Result FileCommands ReadFault
file_commands records = file_commands_from 0 origin records

-- The accepted commands of one record after `count` others, up to the first refused one. Where none
-- is refused, `rest` follows.
abbrev pub accepted_commands : ℕ → List Command → List Command → List Command
accepted_commands count [] rest = rest
accepted_commands count (command ∷ more) rest =
    if is_command_in_range command && nat_lt count MAX_COMMANDS
    then command ∷ accepted_commands (count + 1) more rest else []

-- The commands of records before the end and before the first refusal, after `count` commands and
-- from a position on.
abbrev pub decoded_commands_from : ℕ → Point → Records → List Command
decoded_commands_from count place (over ended) = []
decoded_commands_from count place (refused f) = []
decoded_commands_from count place (next at event rest) =
    let commands = commands_of_event event place in
    accepted_commands count commands
    (decoded_commands_from (count + length commands) (position_after_event event place) rest)

-- The commands of all records of a file, before the end and before the first refusal.
abbrev pub decoded_commands : Records → List Command
decoded_commands records = decoded_commands_from 0 origin records

-- True where all commands of a record are accepted after `count` others.
abbrev pub are_accepted : ℕ → List Command → Bool
are_accepted count commands = list_all is_command_in_range commands && nat_le
    (count + length commands) MAX_COMMANDS

-- The moves of records before the end and before the first refusal, after `count` commands and from
-- a position on.
abbrev pub moves_of_records_from : ℕ → Point → Records → List Point
moves_of_records_from count place (over ended) = []
moves_of_records_from count place (refused f) = []
moves_of_records_from count place (next at event rest) =
    let commands = commands_of_event event place in
    if are_accepted count commands
    then moves_of_event event ++ moves_of_records_from (count + length commands)
    (position_after_event event place) rest else []

-- The moves of all records of a file, before the end and before the first refusal.
abbrev pub moves_of_records : Records → List Point
moves_of_records records = moves_of_records_from 0 origin records
