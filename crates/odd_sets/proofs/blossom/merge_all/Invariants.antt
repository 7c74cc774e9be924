use Rattle.std.proofs.Common.{◌≡◌, ◌<◌, ℕ, get_or, length, take}
use Rattle.odd_sets.proofs.Names.{least_part_slack, parts_in}
use Rattle.odd_sets.proofs.blossom.merge_all.Given as goal

-- the parts so far
abbrev pub invariant-loop-p : goal.invariant-loop-p
invariant-loop-p l = record {
  done : (x : ℕ) → x < length l.fn.cells → get_or l.cells x 0 ≡ least_part_slack (take l.p-index (parts_in l.sets l.parts)) x;
  size : length l.cells ≡ length l.fn.cells;
}
