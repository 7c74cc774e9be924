use Rattle.std.proofs.Common.{◌≡◌, ◌%◌, length}
use Rattle.blossom_match.proofs.Names.{IsPartialWithHeights, matches_in}
use Rattle.blossom_match.proofs.pairing.search_all.Given as goal

-- matches and an even number of free places
abbrev pub invariant-loop-place : goal.invariant-loop-place
invariant-loop-place l = record {
  stands : IsPartialWithHeights l.t (matches_in l.now.sets l.now.matches.items) l.now.free.items l.now.heights.items;
  even : length l.now.free.items % 2 ≡ 0;
}

abbrev pub decreases-loop-place : goal.decreases-loop-place
decreases-loop-place l = length l.now.free.items
