use Rattle.std.proofs.Common.{◌≡◌, ◌++◌, drop}
use Rattle.picture_parts.specs.Parts.{escaped_text}
use Rattle.picture_parts.proofs.escapes.put_escaped.Given as goal

-- the text so far and the characters that are left are all of it
abbrev pub invariant-loop-byte : goal.invariant-loop-byte
invariant-loop-byte l = l.text ++ escaped_text (drop l.byte-index l.label) ≡ l.fn.text ++ escaped_text l.fn.label
