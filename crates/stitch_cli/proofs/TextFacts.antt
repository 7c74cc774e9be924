-- The texts of refusals that only this crate has, to the letter.
use Rattle.std.proofs.Common.{◌≡◌, ◌++◌, refl}
use Rattle.std.specs.Fmt.{digits}
use Rattle.std.specs.Prelude.{codes}
use Rattle.stitch_cli.proofs.Names.{newline, stitch, change_text}
use Rattle.stitch_cli.specs.declared.change_faults.ChangeFault.TheVariants as reason
use Rattle.program_shell.specs.Messages.{message_line}

-- A refused refit is reported for the output, a refused edit for the input.
pub known_refit : message_line stitch.name (change_text (codes "a") (codes "b") (reason.RefitTooMany 5))
    ≡ codes "stitch: b: command 5: too many commands" ++ newline
unfolding digits
known_refit = refl

pub known_moved : change_text (codes "a") (codes "b") (reason.MovedOut 1) ≡ codes "a: command 1: moved out of range"
unfolding digits
known_moved = refl

pub known_no_place : change_text (codes "a") (codes "b") (reason.NoPlace 2 1) ≡ codes "a: no colour place 2, there are 1"
unfolding digits
known_no_place = refl
