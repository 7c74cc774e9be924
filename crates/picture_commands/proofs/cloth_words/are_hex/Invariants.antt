use Rattle.std.proofs.Common.{◌≡◌, drop}
use Rattle.std.specs.List.{list_all}
use Rattle.picture_commands.specs.Names.{is_hex_digit}
use Rattle.picture_commands.proofs.cloth_words.are_hex.Given as goal

-- the digits that are left decide
abbrev pub invariant-loop-digit : goal.invariant-loop-digit
invariant-loop-digit l = list_all is_hex_digit (drop l.digit-index l.digits) ≡ list_all is_hex_digit l.digits
