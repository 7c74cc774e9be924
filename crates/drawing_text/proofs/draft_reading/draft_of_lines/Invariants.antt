use Rattle.std.proofs.Common.{◌≡◌, ◌+◌, ◌≤◌, length}
use Rattle.drawing_text.proofs.Names.{drawing_after_lines, lines_after, empty_draft, words_by_line}
use Rattle.drawing_text.proofs.draft_reading.draft_of_lines.Given as goal

-- the draft is that of the lines so far, and each result depends on it and on those that are left
abbrev pub invariant-loop-line : goal.invariant-loop-line
invariant-loop-line l = record {
  drawing : drawing_after_lines l.version l.first empty_draft (words_by_line l.text)
      ≡ drawing_after_lines l.version l.number l.draft (words_by_line l.rest);
  lines : lines_after l.version l.first empty_draft (words_by_line l.text)
      ≡ lines_after l.version l.number l.draft (words_by_line l.rest);
  early : l.number + length l.rest ≤ 67108865;
}

abbrev pub decreases-loop-line : goal.decreases-loop-line
decreases-loop-line l = length l.rest
