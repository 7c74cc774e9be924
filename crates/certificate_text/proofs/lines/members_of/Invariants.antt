use Rattle.std.proofs.Common.{length}
use Rattle.certificate_text.proofs.WordsLemmas.{MembersOn}
use Rattle.certificate_text.proofs.lines.members_of.Given as goal

-- the words so far are members, and the next number must be greater than the last one
abbrev pub invariant-loop-word : goal.invariant-loop-word
invariant-loop-word l = MembersOn l.words l.rest l.before l.members

abbrev pub decreases-loop-word : goal.decreases-loop-word
decreases-loop-word l = length l.rest
