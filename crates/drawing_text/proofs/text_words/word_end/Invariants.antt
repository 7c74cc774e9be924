use Rattle.std.proofs.Common.{◌≡◌, ◌+◌, drop}
use Rattle.drawing_text.proofs.Names.{position_or_len, is_blank_byte}
use Rattle.drawing_text.proofs.text_words.word_end.Given as goal

-- the first place is among the bytes that are left
abbrev pub invariant-loop-index : goal.invariant-loop-index
invariant-loop-index l = l.index + position_or_len is_blank_byte (drop l.index l.from) ≡ position_or_len is_blank_byte l.from
