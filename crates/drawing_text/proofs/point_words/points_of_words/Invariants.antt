use Rattle.std.proofs.Common.{All, length}
use Rattle.drawing_text.proofs.Names.{IsNeedlePoint}
use Rattle.drawing_text.proofs.PointWordLemmas.{GoesOn}
use Rattle.drawing_text.proofs.point_words.points_of_words.Given as goal

-- the words so far spell these points, where needles may go down
abbrev pub invariant-loop-x : goal.invariant-loop-x
invariant-loop-x l = record {
  goes_on : GoesOn l.words l.rest l.points;
  in_range : All IsNeedlePoint l.points;
}

abbrev pub decreases-loop-x : goal.decreases-loop-x
decreases-loop-x l = length l.rest
