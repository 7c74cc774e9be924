use Rattle.std.proofs.Common.{◌≡◌, ◌≤◌, ◌<◌, ◌+◌, ℕ, false, min, get_or, sum}
use Rattle.odd_paths.proofs.Names.{one_if}
use Rattle.odd_paths.proofs.lanes.lower_lane.Given as goal

-- the numbers so far are lowered, the others are as they were, and each change lowers the sum
abbrev pub invariant-loop-i : goal.invariant-loop-i
invariant-loop-i l = record {
  done : (x : ℕ) → x < l.i → get_or l.lane x 0 ≡ min (get_or l.near x 0 + l.cost) (get_or l.fn.lane x 0);
  rest : (x : ℕ) → l.i ≤ x → get_or l.lane x 0 ≡ get_or l.fn.lane x 0;
  reported : l.changed ≡ false → (x : ℕ) → x < l.i → get_or l.fn.lane x 0 ≤ get_or l.near x 0 + l.cost;
  weight : sum l.lane + one_if l.changed ≤ sum l.fn.lane;
}
