use Rattle.std.proofs.Common.{◌≡◌, drop}
use Rattle.stitch_text.proofs.Names.{list_all, is_printable}
use Rattle.stitch_text.proofs.words.are_printable.Given as goal

-- the bytes that are left decide
abbrev pub invariant-loop-byte : goal.invariant-loop-byte
invariant-loop-byte l = list_all is_printable (drop l.byte-index l.bytes) ≡ list_all is_printable l.bytes
