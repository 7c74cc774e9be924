use Rattle.std.proofs.Common.{◌≡◌, ◌++◌, length}
use Rattle.drawing_comments.specs.OrderedComments.{ordered_comments}
use Rattle.drawing_comments.proofs.ordering.of_ordered.Given as goal

-- the comments so far, and those of the lines that are left
abbrev pub invariant-loop-line : goal.invariant-loop-line
invariant-loop-line l = l.moved ++ ordered_comments l.before l.comments l.rest ≡ ordered_comments l.before l.comments l.ordered

abbrev pub decreases-loop-line : goal.decreases-loop-line
decreases-loop-line l = length l.rest
