use Rattle.std.proofs.Common.{◌≡◌, map}
use Rattle.odd_sets.proofs.Names.{range_with_len, vertex_slack}
use Rattle.odd_sets.proofs.slack_rows.single_row.Given as goal

-- the cells so far
abbrev pub invariant-loop-x : goal.invariant-loop-x
invariant-loop-x l = l.row.items ≡ map (vertex_slack l.t l.place) (range_with_len 0 l.x)
