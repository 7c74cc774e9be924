use Rattle.std.proofs.Common.{length}
use Rattle.certificate_text.proofs.WordsLemmas.{PassesOn}
use Rattle.certificate_text.proofs.lines.passes_of.Given as goal

-- the words so far are passes
abbrev pub invariant-loop-word : goal.invariant-loop-word
invariant-loop-word l = PassesOn l.words l.rest l.walk

abbrev pub decreases-loop-word : goal.decreases-loop-word
decreases-loop-word l = length l.rest
