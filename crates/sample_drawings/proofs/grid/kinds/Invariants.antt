use Rattle.std.proofs.Common.{◌≡◌, ◌+◌}
use Rattle.sample_drawings.proofs.Names.{state_after, by_index, cells_per_side, cell_kind, junction_draws}
use Rattle.sample_drawings.proofs.grid.kinds.Given as goal

-- the kinds so far, each by one draw
abbrev pub invariant-loop : goal.invariant-loop
invariant-loop l = record {
  kinds : l.kinds ≡ by_index (cells_per_side l.number) (cell_kind l.number) l.counter;
  state : l.generator.state ≡ state_after l.number (junction_draws l.number + l.counter);
}
