use Rattle.std.proofs.Common.{◌+◌, ◌≤◌, length}
use Rattle.certificate_text.proofs.ReadingLemmas.{ReadsOn}
use Rattle.certificate_text.proofs.reading.read_lines.Given as goal

-- the lines so far fit, and there are no more than bytes
abbrev pub invariant-loop-line : goal.invariant-loop-line
invariant-loop-line l = record {
  on : ReadsOn l.bytes l.rest l.number l.draft;
  early : l.number + length l.rest ≤ 67108865;
}

abbrev pub decreases-loop-line : goal.decreases-loop-line
decreases-loop-line l = length l.rest
