use Rattle.std.proofs.Common.{◌≡◌, ◌%◌, length}
use Rattle.blossom_match.proofs.Names.{IsPartialWithHeights, matches_in}
use Rattle.blossom_match.proofs.initial_duals.initial_matching.Given as goal

-- matches and free places, two of which at a time were paired
abbrev pub invariant-loop-place : goal.invariant-loop-place
invariant-loop-place l = record {
  stands : IsPartialWithHeights l.t (matches_in l.now.sets l.now.matches.items) l.now.free.items l.now.heights.items;
  even : length l.now.free.items % 2 ≡ l.t.places % 2;
}
