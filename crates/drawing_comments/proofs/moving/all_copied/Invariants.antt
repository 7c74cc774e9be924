use Rattle.std.proofs.Common.{◌≡◌, take}
use Rattle.drawing_comments.proofs.moving.all_copied.Given as goal

-- the comments so far are copied
abbrev pub invariant-loop-comment : goal.invariant-loop-comment
invariant-loop-comment l = l.copies ≡ take l.comment-index l.comments
