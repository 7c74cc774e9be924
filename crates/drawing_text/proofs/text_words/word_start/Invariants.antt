use Rattle.std.proofs.Common.{◌≡◌, ◌+◌, drop}
use Rattle.drawing_text.proofs.Names.{position_or_len, is_word_byte}
use Rattle.drawing_text.proofs.text_words.word_start.Given as goal

-- the first place is among the bytes that are left
abbrev pub invariant-loop-index : goal.invariant-loop-index
invariant-loop-index l = l.index + position_or_len is_word_byte (drop l.index l.line) ≡ position_or_len is_word_byte l.line
