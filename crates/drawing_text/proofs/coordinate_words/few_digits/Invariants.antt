use Rattle.std.proofs.Common.{◌≡◌, ◌≤◌, true, take}
use Rattle.drawing_text.proofs.Names.{all_ascii_digits, digits_value}
use Rattle.drawing_text.proofs.coordinate_words.few_digits.Given as goal

-- The number that the digits read so far write.
abbrev pub invariant-loop-index : goal.invariant-loop-index
invariant-loop-index l = record {
  digits : all_ascii_digits (take l.index l.bytes) ≡ true;
  value : l.size ≡ digits_value 10 (take l.index l.bytes);
  small : l.size ≤ 99999;
}
