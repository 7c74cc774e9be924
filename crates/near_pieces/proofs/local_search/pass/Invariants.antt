use Rattle.std.proofs.Common.{◌≤◌, ◌-◌, length}
use Rattle.near_pieces.specs.Changes.{ArePassed, IsTracks}
use Rattle.near_pieces.proofs.local_search.pass.Given as goal

-- The steps so far are passed.
abbrev pub invariant-loop-index : goal.invariant-loop-index
invariant-loop-index l = record {
  tracks : IsTracks l.visits l.start l.tracks;
  passed : ArePassed l.visits l.start l.index l.fn.tracks l.tracks l.changed;
  within : l.index ≤ length l.visits;
}

abbrev pub decreases-loop-index : goal.decreases-loop-index
decreases-loop-index l = length l.visits - l.index
