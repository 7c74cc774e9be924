use Rattle.std.proofs.Common.{◌≡◌, ◌+◌, ◌≤◌, length}
use Rattle.drawing_text.proofs.Names.{body_from, body_of_text, words_by_line}
use Rattle.drawing_text.proofs.reading.find_body.Given as goal

-- the lines so far are passed over, so all depends on those that are left
abbrev pub invariant-loop-line : goal.invariant-loop-line
invariant-loop-line l = record {
  read : body_of_text l.bytes ≡ body_from (l.passed + 1) (words_by_line l.rest);
  early : l.passed + length l.rest ≤ 67108864;
}

abbrev pub decreases-loop-line : goal.decreases-loop-line
decreases-loop-line l = length l.rest
