use Rattle.std.proofs.Common.{drop, map, string_bytes}
use Rattle.drawing_commands.proofs.OrderEditLemmas.{OrdersGoOn}
use Rattle.drawing_commands.proofs.orders_alone.ordered_alone.Given as goal

-- The remaining edits lead on from the orders so far.
abbrev pub invariant-loop-word : goal.invariant-loop-word
invariant-loop-word l = OrdersGoOn (map (λ word. string_bytes word) l.words)
    (map (λ word. string_bytes word) (drop l.word-index l.words)) l.drawing l.ordered
