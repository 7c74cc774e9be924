use Rattle.std.proofs.Common.{◌≡◌, ◌+◌, ◌≤◌, ◌++◌, length}
use Rattle.format_traits.proofs.Names.{ContinuesAs}
use Rattle.format_traits.proofs.chunk_passing.pass_on.Given as goal

-- the pending bytes and the rest of the chunk have the same result as all bytes
abbrev pub invariant-loop-size : goal.invariant-loop-size
invariant-loop-size g l = record {
  sum : (l.at + length l.pending.items) + length l.rest ≡ (l.start + length l.fn.pending.items) + length l.chunk;
  up : l.start ≤ l.at;
  on : ContinuesAs (g.D.Decoder.decoder_state l.fn.decoder) (g.D.Decoder.decoder_state l.decoder) l.start l.at
      (l.fn.pending.items ++ l.chunk) (l.pending.items ++ l.rest);
}

abbrev pub decreases-loop-size : goal.decreases-loop-size
decreases-loop-size g l = length l.rest
