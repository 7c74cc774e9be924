use Rattle.std.proofs.Common.{◌≡◌, ◌++◌, length}
use Rattle.drawing_comments.specs.OrderedComments.{section_comments}
use Rattle.drawing_comments.proofs.ordering.of_sections.Given as goal

-- the comments so far, and those of the sections that are left
abbrev pub invariant-loop-rest : goal.invariant-loop-rest
invariant-loop-rest l = l.cut ++ section_comments l.ahead l.next l.left l.rest ≡ section_comments 0 l.lines l.comments l.sections

abbrev pub decreases-loop-rest : goal.decreases-loop-rest
decreases-loop-rest l = length l.rest
