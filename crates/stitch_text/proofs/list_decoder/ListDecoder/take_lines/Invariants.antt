use Rattle.std.proofs.Common.{◌≡◌, ◌+◌, ◌-◌, ◌≤◌, length, drop}
use Rattle.stitch_text.proofs.Names.{ContinuesAs, list_state_at}
use Rattle.stitch_text.proofs.list_decoder.ListDecoder.take_lines.Given as goal

-- the remaining lines have the same result as all lines
abbrev pub invariant-loop-line : goal.invariant-loop-line
invariant-loop-line l = record {
  at : l.at + length l.rest ≡ l.start + length l.bytes;
  there : length l.rest ≤ length l.bytes;
  left : l.rest ≡ drop (length l.bytes - length l.rest) l.bytes;
  on : ContinuesAs (list_state_at l.fn.self.draft l.fn.self.stage) (list_state_at l.self.draft l.self.stage) l.start l.at l.bytes l.rest;
}

abbrev pub decreases-loop-line : goal.decreases-loop-line
decreases-loop-line l = length l.rest
