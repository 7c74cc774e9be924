use Rattle.std.proofs.Common.{◌≡◌, map, take}
use Rattle.format_traits.proofs.Names.{printable_byte}
use Rattle.format_traits.proofs.label_fields.read_label.Given as goal

-- the bytes so far
abbrev pub invariant-loop-byte : goal.invariant-loop-byte
invariant-loop-byte l = l.text.items ≡ map printable_byte (take l.byte-index l.field)
