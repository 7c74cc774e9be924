-- A file that is read to its end has an end record.
use Rattle.std.proofs.Common.{◌≡◌, ℕ, ◌+◌, Bool, true, false, not, nat_le, List, [], ◌∷◌, length, if◌then◌else◌, Result, Ok, Err, IsOkAnd}
use Rattle.design_model.specs.declared.command.Command.{Command}
use Rattle.design_model.specs.declared.design.TheConstants.{MAX_COMMANDS}
use Rattle.design_model.specs.declared.point.Point.{Point}
use Rattle.design_model.specs.Commands.{is_command_in_range}
use Rattle.design_model.specs.Designs.{DesignValue}
use Rattle.format_traits.specs.declared.fault.ReadFault.{ReadFault}
use Rattle.format_traits.specs.declared.fault.ReadFault.TheVariants as fault
use Rattle.format_traits.specs.Laws.{HasSameActs}
use Rattle.record_formats.specs.Readings.{FileCommands, checked_commands, loaded_with, with_commands_before}
use Rattle.record_formats.specs.Records.{Records, commands_of_event, file_commands_from, next, over, position_after_event, refused}
use Rattle.thumbnails.specs.Tails.{has_end}

-- The test whether commands are read to an end.
abbrev pub are_ended : Result FileCommands ReadFault → Bool
are_ended (Ok course) = course.ended
are_ended (Err f) = false

-- What comes after a command that is accepted.
after_command : (command : Command) (far many : Bool) (f g : ReadFault) (rest : Result FileCommands ReadFault)
    → are_ended (if far then Err f else (if many then Err g else with_commands_before (command ∷ []) rest)) ≡ true
    → are_ended rest ≡ true
after_command command true many f g rest ended = let no : false ≡ true = ended in cc
after_command command false true f g rest ended = let no : false ≡ true = ended in cc
after_command command false false f g (Ok course) ended = ended
after_command command false false f g (Err why) ended = ended

after_commands : (at count : ℕ) (commands : List Command) (rest : Result FileCommands ReadFault)
    → are_ended (checked_commands at count commands rest) ≡ true → are_ended rest ≡ true
after_commands at count [] rest ended = ended
after_commands at count (command ∷ more) rest ended = after_commands at (count + 1) more rest
    (after_command command (not (is_command_in_range command)) (nat_le MAX_COMMANDS count) (fault.Range at) (fault.TooMany at)
    (checked_commands at (count + 1) more rest) ended)

-- Records that are read to an end have one.
pub end_there : (count : ℕ) (place : Point) (records : Records) → are_ended (file_commands_from count place records) ≡ true
    → has_end records ≡ true
end_there count place (over ended) is = is
end_there count place (refused f) is = is
end_there count place (next at event rest) is =
    end_there (count + length (commands_of_event event place)) (position_after_event event place) rest
    (after_commands at count (commands_of_event event place)
    (file_commands_from (count + length (commands_of_event event place)) (position_after_event event place) rest) is)

-- A design that reads back is read to an end.
pub read_to_end : (d : DesignValue) (label threads : List ℕ) (read : Result FileCommands ReadFault)
    → IsOkAnd (loaded_with label threads read) (λ loaded. HasSameActs d loaded) → are_ended read ≡ true
read_to_end d label threads (Ok course) is = is.ended
read_to_end d label threads (Err f) is = absurd is
