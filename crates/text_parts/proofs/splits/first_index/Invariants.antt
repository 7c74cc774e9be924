use Rattle.std.proofs.Common.{◌≡◌, ◌+◌, ◌==◌, drop}
use Rattle.std.specs.List.{position_or_len}
use Rattle.text_parts.proofs.splits.first_index.Given as goal

-- the first place is among the bytes that are left
abbrev pub invariant-loop-index : goal.invariant-loop-index
invariant-loop-index l = l.index + position_or_len (λ b. b == l.mark) (drop l.index l.bytes)
    ≡ position_or_len (λ b. b == l.mark) l.bytes
