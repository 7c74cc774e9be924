use Rattle.std.proofs.Common.{◌≡◌, ◌*◌}
use Rattle.sample_drawings.proofs.Names.{state_after, by_index, grid_junction, junctions_per_side}
use Rattle.sample_drawings.proofs.grid.junctions.Given as goal

-- the junctions so far, each by two draws
abbrev pub invariant-loop-place : goal.invariant-loop-place
invariant-loop-place l = record {
  junctions : l.junctions ≡ by_index (junctions_per_side l.number) (grid_junction l.number) l.place;
  state : l.generator.state ≡ state_after l.number (2 * l.place);
}
