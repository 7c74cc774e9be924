use Rattle.std.proofs.Common.{◌≡◌, drop}
use Rattle.drawing_comments.specs.CommentedTexts.{line_mark}
use Rattle.drawing_comments.proofs.marks.first_mark.Given as goal

-- the bytes so far are blanks
abbrev pub invariant-loop-byte : goal.invariant-loop-byte
invariant-loop-byte l = line_mark (drop l.byte-index l.line) ≡ line_mark l.line
