use Rattle.std.proofs.Common.{◌≡◌, ◌++◌, replicate}
use Rattle.format_traits.proofs.label_fields.put_spaces.Given as goal

-- the spaces so far
abbrev pub invariant-loop : goal.invariant-loop
invariant-loop l = l.out ≡ l.fn.out ++ replicate l.counter 32
