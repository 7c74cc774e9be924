use Rattle.std.proofs.Common.{◌≡◌, length}
use Rattle.std.specs.List.{count_by}
use Rattle.line_sections.specs.Lines.{is_same_line}
use Rattle.drawing_comments.specs.OrderedComments.{comment_of_same}
use Rattle.drawing_comments.proofs.ordering.of_same.Given as goal

-- the comment is that of one of the lines that are left, among which the same ones are counted
abbrev pub invariant-loop-rest : goal.invariant-loop-rest
invariant-loop-rest l = record {
  comment : comment_of_same l.line l.more l.rest l.left ≡ comment_of_same l.line l.more l.lines l.comments;
  same : l.same ≡ count_by (is_same_line l.line) l.rest;
}

abbrev pub decreases-loop-rest : goal.decreases-loop-rest
decreases-loop-rest l = length l.rest
