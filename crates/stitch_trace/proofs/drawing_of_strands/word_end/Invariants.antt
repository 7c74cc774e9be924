use Rattle.std.proofs.Common.{◌≡◌, ◌+◌, drop}
use Rattle.stitch_trace.proofs.Names.{position_or_len, is_space}
use Rattle.stitch_trace.proofs.drawing_of_strands.word_end.Given as goal

-- the first space is among the bytes that are left
abbrev pub invariant-loop-index : goal.invariant-loop-index
invariant-loop-index l = l.index + position_or_len is_space (drop l.index l.label) ≡ position_or_len is_space l.label
