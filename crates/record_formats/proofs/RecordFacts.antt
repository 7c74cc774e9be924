-- Worked values of the parts of moves, of records, and of the encoding of acts.
use Rattle.std.proofs.Common.{◌≡◌, ℕ, ℤ, pos, negsuc, true, false, [], ◌∷◌, length, map, take, drop, Some, None, Ok, Err, refl}
use Rattle.record_formats.proofs.Names.{Stitch, Jump, Point, WriteLimits, part_moves, Records, moves_of_records_from, file_commands_from, over, next, RecordEncoding, numbered, file_commands, trims_or_stops, decoded_commands_from, decoded_commands, moves_of_records, refused, records_of_acts}
use Rattle.design_model.specs.declared.act.Act.TheVariants.{Needle, Trim as TrimAct, Stop as StopAct}
use Rattle.design_model.specs.declared.command.Command.TheVariants.{Trim, Stop}
use Rattle.record_formats.specs.declared.event.Event.TheVariants as event
use Rattle.format_traits.specs.declared.fault.ReadFault.TheVariants as fault
use Rattle.record_formats.specs.declared.move_parts.TheConstants.{MAX_HOPS}
use Rattle.record_formats.specs.declared.record_reader.TheConstants.{MAX_RECORD_MOVE}
use Rattle.record_formats.specs.Layouts.{Layout, layout_decoded, layout_reads}

abbrev pub point : ℤ → ℤ → Point
point x y = record { x = x; y = y }

-- the greatest move of a record, and the hops of the greatest move between two needles
pub known_step : (MAX_RECORD_MOVE ≡ 2048)
    × (MAX_HOPS ≡ 496)
known_step = (refl, refl)

-- the parts of -5 in two end at -3 and at -5
pub known_parts : part_moves (point (negsuc 4) (pos 128)) 2
    ≡ point (negsuc 2) (pos 64) ∷ point (negsuc 1) (pos 64) ∷ []
known_parts = refl

-- one record of each kind, and the end
abbrev pub all_kinds : Records
all_kinds = next 0 (event.Stitch (point (pos 1) (pos 0))) (next 2 (event.Jump (point (pos 0) (pos 2)))
    (next 4 (event.TrimmedJump (point (pos 1) (pos 1))) (next 6 event.Trim (next 8 event.Stop
    (next 10 (event.StopBy (point (pos 0) (pos 0))) (next 12 (event.StopBy (point (negsuc 1) (pos 0))) (over true)))))))

pub known_course : file_commands all_kinds ≡ Ok (record {
  commands = Stitch (point (pos 1) (pos 0)) ∷ Jump (point (pos 1) (pos 2)) ∷ Trim ∷ Jump (point (pos 2) (pos 3))
      ∷ Trim ∷ Stop ∷ Stop ∷ Stop ∷ Jump (point (pos 0) (pos 3)) ∷ [];
  ended = true;
})
known_course = refl

-- a trim and a stop have no move
pub known_moves : moves_of_records all_kinds ≡ point (pos 1) (pos 0) ∷ point (pos 0) (pos 2) ∷ point (pos 1) (pos 1)
    ∷ point (pos 0) (pos 0) ∷ point (negsuc 1) (pos 0) ∷ []
known_moves = refl

-- a needle out of range is refused at its record, whose move is none of those before the refusal
abbrev pub too_far : Records
too_far = next 7 (event.Jump (point (pos 30001) (pos 0))) (next 9 (event.Stitch (point (pos 0) (pos 0))) (refused (fault.Sequin 11)))

pub known_range : (file_commands too_far ≡ Err (fault.Range 9))
    × (moves_of_records too_far ≡ point (pos 30001) (pos 0) ∷ [])
known_range = (refl, refl)

-- where 999,999 commands are kept one more is taken and no second; each command of a record is judged for its
-- range and then for the number of commands, before the next one is
abbrev pub cut_to : ℤ → Records
cut_to x = next 7 (event.TrimmedJump (point x (pos 0))) (over true)

pub known_file_commands_from : (file_commands_from 999999 (point (pos 0) (pos 0)) (next 7 event.Trim (over true))
    ≡ Ok (record { commands = Trim ∷ []; ended = true }))
    × (file_commands_from 999999 (point (pos 0) (pos 0)) (cut_to (pos 32767)) ≡ Err (fault.TooMany 7))
    × (file_commands_from 999999 (point (pos 0) (pos 0)) (cut_to (pos 32768)) ≡ Err (fault.Range 7))
    × (file_commands_from 1000000 (point (pos 0) (pos 0)) (cut_to (pos 32768)) ≡ Err (fault.TooMany 7))
    × (file_commands_from 1000000 (point (pos 0) (pos 0)) (next 7 (event.Jump (point (pos 0) (negsuc 32767))) (over true))
    ≡ Err (fault.Range 7))
known_file_commands_from = (refl, refl, refl, refl, refl)

-- the move of a refused record is left out
pub known_moves_of_records_from : (moves_of_records_from 999998 (point (pos 0) (pos 0)) (cut_to (pos 5)) ≡ point (pos 5) (pos 0) ∷ [])
    × (moves_of_records_from 999999 (point (pos 0) (pos 0)) (cut_to (pos 5)) ≡ [])
known_moves_of_records_from = (refl, refl)

-- the commands before a refusal are given, and of a record those before the one that is refused
pub known_given : decoded_commands all_kinds ≡ Stitch (point (pos 1) (pos 0)) ∷ Jump (point (pos 1) (pos 2)) ∷ Trim
    ∷ Jump (point (pos 2) (pos 3))
    ∷ Trim ∷ Stop ∷ Stop ∷ Stop ∷ Jump (point (pos 0) (pos 3)) ∷ []
known_given = refl

pub known_given_before : (map decoded_commands (too_far ∷ cut_to (pos 32768) ∷ []) ≡ (Jump (point (pos 30001) (pos 0)) ∷ []) ∷ (Trim ∷ [])
    ∷ [])
    × (map (λ count. decoded_commands_from count (point (pos 0) (pos 0)) (cut_to (pos 5))) (999998 ∷ 999999 ∷ 1000000 ∷ [])
    ≡ (Trim ∷ Jump (point (pos 5) (pos 0)) ∷ []) ∷ (Trim ∷ []) ∷ [] ∷ [])
known_given_before = (refl, refl)

-- the commands of records before are counted
abbrev two_records : Records
two_records = next 7 event.Trim (next 8 (event.Jump (point (pos 5) (pos 0))) (over true))

pub known_counted : (file_commands_from 999999 (point (pos 0) (pos 0)) two_records ≡ Err (fault.TooMany 8))
    × (decoded_commands_from 999999 (point (pos 0) (pos 0)) two_records ≡ Trim ∷ [])
    × (moves_of_records_from 999999 (point (pos 0) (pos 0)) two_records ≡ [])
known_counted = (refl, refl, refl)

-- which events trim or stop
pub known_cuts : map trims_or_stops (event.Stitch (point (pos 0) (pos 0)) ∷ event.Jump (point (pos 0) (pos 0))
    ∷ event.TrimmedJump (point (pos 0) (pos 0)) ∷ event.Trim ∷ event.Stop ∷ event.StopBy (point (pos 0) (pos 0)) ∷ [])
    ≡ false ∷ false ∷ true ∷ true ∷ true ∷ true ∷ []
known_cuts = refl

-- a header of a label and a thread, and records of stitches whose moves are their number and their offset
abbrev pub two_bytes : Layout
two_bytes = record {
  header = 2;
  label = take 1;
  threads = λ bytes. take 1 (drop 1 bytes);
  records = λ at bytes. next at (event.Stitch (point (pos (length bytes)) (pos at))) (over false);
}

-- the header is short, alone, and before a byte at the offset 7
pub known_layout : map (layout_reads two_bytes 5) ((65 ∷ []) ∷ (65 ∷ 9 ∷ []) ∷ (65 ∷ 9 ∷ 1 ∷ []) ∷ [])
    ≡ Err (fault.Short 6)
    ∷ Ok (record { design = record { label = 65 ∷ []; threads = 9 ∷ []; commands = Stitch (point (pos 0) (pos 7)) ∷ [] }; ended = false })
    ∷ Ok (record { design = record { label = 65 ∷ []; threads = 9 ∷ []; commands = Stitch (point (pos 1) (pos 7)) ∷ [] }; ended = false })
    ∷ []
known_layout = refl

pub known_layout_given : map (layout_decoded two_bytes 5) ((65 ∷ []) ∷ (65 ∷ 9 ∷ []) ∷ []) ≡ [] ∷ (Stitch (point (pos 0) (pos 7)) ∷ []) ∷ []
known_layout_given = refl

-- a refusal by a format
pub known_refusal : file_commands (next 0 event.Trim (refused (fault.Control 4))) ≡ Err (fault.Control 4)
known_refusal = refl

-- records that are encoded by their kind, and numbers of stops as they are
abbrev pub plain_spelling : RecordEncoding
plain_spelling = record {
  stitch = λ m. 1 ∷ [];
  jump = λ m. 2 ∷ [];
  trim = (3 ∷ []) ∷ (3 ∷ []) ∷ [];
  stop = λ before. 4 ∷ before ∷ [];
}

-- a format with the limit 121 and a maximum of hops of a float
abbrev pub with_most : ℕ → WriteLimits
with_most most = record { limit = 121; float_hops = Some most; stops = None }

-- two hops to a loose needle, a trim, two stops, a loose needle in place, a float of 300 and one of no length
pub known_records_of_acts : (records_of_acts plain_spelling (with_most 4) (numbered 1 (Needle (point (pos 200) (pos 0)) false)
    ∷ numbered 2 TrimAct ∷ numbered 3 StopAct ∷ numbered 4 StopAct ∷ numbered 5 (Needle (point (pos 200) (pos 0)) false)
    ∷ numbered 7 (Needle (point (pos 500) (pos 0)) true) ∷ numbered 9 (Needle (point (pos 500) (pos 0)) true) ∷ [])
    ≡ (2 ∷ []) ∷ (2 ∷ []) ∷ (1 ∷ []) ∷ (3 ∷ []) ∷ (3 ∷ []) ∷ (4 ∷ 0 ∷ []) ∷ (4 ∷ 1 ∷ []) ∷ (1 ∷ [])
    ∷ (2 ∷ []) ∷ (2 ∷ []) ∷ (2 ∷ []) ∷ (1 ∷ []) ∷ (2 ∷ []) ∷ (1 ∷ []) ∷ [])
    -- the longest float that is allowed ends in a stitch in the place of its last jump
    × (records_of_acts plain_spelling (with_most 3) (numbered 1 (Needle (point (pos 0) (pos 0)) false)
    ∷ numbered 3 (Needle (point (pos 300) (pos 0)) true) ∷ [])
    ≡ (1 ∷ []) ∷ (2 ∷ []) ∷ (2 ∷ []) ∷ (1 ∷ []) ∷ [])
known_records_of_acts = (refl, refl)
