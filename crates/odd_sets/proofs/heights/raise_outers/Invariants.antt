use Rattle.std.proofs.Common.{◌≡◌, ◌+◌, ◌*◌, ◌≤◌, ◌<◌, ℕ, [], drop, get_or, length}
use Rattle.odd_sets.proofs.Names.{count, outer_members, branches_in}
use Rattle.odd_sets.proofs.heights.raise_outers.Given as goal

-- the branches that are left are still to change
abbrev pub invariant-loop-b : goal.invariant-loop-b
invariant-loop-b l = record {
  sum : (x : ℕ) → get_or l.heights x 0 + l.by * count x (outer_members [] (drop l.b-index (branches_in l.sets l.tree)))
      ≡ get_or l.fn.heights x 0 + l.by * count x (outer_members [] (branches_in l.sets l.tree));
  within : (x : ℕ) → 1 ≤ count x (outer_members [] (drop l.b-index (branches_in l.sets l.tree))) → x < length l.heights;
}
