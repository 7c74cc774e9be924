use Rattle.std.proofs.Common.{◌≡◌, length, take}
use Rattle.blossom_match.proofs.Names.{match_members, SetsCells, matches_in}
use Rattle.blossom_match.proofs.masks.show.Given as goal

-- the matches so far
abbrev pub invariant-loop-c : goal.invariant-loop-c
invariant-loop-c l = record {
  puts : SetsCells 0 (match_members (take l.c-index (matches_in l.sets l.matches))) l.fn.mask l.mask;
  size : length l.mask ≡ length l.fn.mask;
}
