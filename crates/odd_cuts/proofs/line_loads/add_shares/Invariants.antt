use Rattle.std.proofs.Common.{◌≡◌, ◌≤◌, ◌<◌, ℕ, ◌+◌, ◌-◌, ◌^◌, get_or, length, slice_get, Some}
use Rattle.odd_cuts.proofs.Names.{share_of, Edge, MAX_LINES}
use Rattle.odd_cuts.proofs.line_loads.add_shares.Given as goal

-- the edges before that index have their shares, and the loads of the others are unchanged
abbrev pub invariant-loop-at : goal.invariant-loop-at
invariant-loop-at l = record {
  sized : length l.loads ≡ MAX_LINES;
  before : (i : ℕ) (e : Edge) → i < l.at → slice_get l.edges i ≡ Some e → get_or l.loads i 0 ≡ get_or l.fn.loads i 0 + share_of l.cut e;
  behind : (i : ℕ) → l.at ≤ i → get_or l.loads i 0 ≡ get_or l.fn.loads i 0;
  most : (i : ℕ) → get_or l.loads i 0 ≤ get_or l.fn.loads i 0 + (2 ^ 32 - 1);
}
