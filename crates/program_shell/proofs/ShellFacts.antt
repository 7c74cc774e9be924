-- Worked values of the lines and texts of a program.
use Rattle.std.proofs.Common.{◌≡◌, ◌++◌, [], ◌∷◌, map, refl}
use Rattle.std.specs.Fmt.{digits}
use Rattle.std.specs.Prelude.{codes}
use Rattle.program_shell.proofs.Names.{cannot_print_line, cannot_read_line, cannot_write_line, message_line, out_of_memory_line}
use Rattle.design_model.specs.TextLines.{newline}
use Rattle.format_traits.specs.declared.fault.ReadFault.TheVariants as read
use Rattle.program_shell.specs.ExitCodes.{exit_number}
use Rattle.program_shell.specs.FileTexts.{read_fault_text, too_long_text}
use Rattle.program_shell.specs.declared.status.Status.TheVariants as status

-- what the outside did not do
pub known_unread : (cannot_read_line (codes "stitch") (codes "a") ≡ codes "stitch: cannot read a" ++ newline)
    × (cannot_write_line (codes "stitch") (codes "a") ≡ codes "stitch: cannot write a" ++ newline)
    × (cannot_print_line (codes "stitch") ≡ codes "stitch: cannot print" ++ newline)
    × (out_of_memory_line (codes "stitch") ≡ codes "stitch: out of memory" ++ newline)
known_unread = (refl, refl, refl, refl)

-- the line of a refusal, after the name of the program
pub known_refusal : message_line (codes "stitch") (too_long_text (codes "a"))
    ≡ codes "stitch: a: longer than 67108864 bytes" ++ newline
known_refusal = refl

-- each fault of a file
pub known_short : read_fault_text (codes "a") (read.Short 511) ≡ codes "a: byte 511: file too short"
unfolding digits
known_short = refl

pub known_signature : read_fault_text (codes "a") (read.Signature 0) ≡ codes "a: byte 0: signature not known"
unfolding digits
known_signature = refl

pub known_sequin : read_fault_text (codes "a") (read.Sequin 512) ≡ codes "a: byte 512: sequin"
unfolding digits
known_sequin = refl

pub known_control : read_fault_text (codes "a") (read.Control 14) ≡ codes "a: byte 14: control code not known"
unfolding digits
known_control = refl

pub known_range : read_fault_text (codes "a") (read.Range 515) ≡ codes "a: byte 515: point out of range"
unfolding digits
known_range = refl

pub known_many : read_fault_text (codes "a") (read.TooMany 9) ≡ codes "a: byte 9: more than 1000000 commands"
unfolding digits
known_many = refl

-- the exit code of each status
pub known_exit_numbers : map exit_number (status.Done ∷ status.Refused ∷ status.Usage ∷ status.Fault ∷ status.Memory ∷ [])
    ≡ 0 ∷ 1 ∷ 2 ∷ 3 ∷ 4 ∷ []
known_exit_numbers = refl
