use Rattle.std.proofs.Common.{◌≡◌, ◌+◌, ◌*◌, ◌++◌, ◌≤◌, ◌^◌, length}
use Rattle.drawing_picture.specs.LabelOrders.{placed_labels}
use Rattle.drawing_picture.specs.LabelTexts.{placed_texts, side_text}
use Rattle.drawing_picture.proofs.label_texts.put_side.Given as goal

-- the labels so far, and those that are left from the least row that is free
abbrev pub invariant-loop-rest : goal.invariant-loop-rest
invariant-loop-rest l = record {
  left : length l.rest ≤ length l.labels;
  room : l.least + 48 * length l.rest ≤ 2 ^ 34 + 48 * length l.labels;
  texts : l.text ++ placed_texts l.side l.g (placed_labels l.bottom l.least l.rest) ≡ l.fn.text ++ side_text l.side l.g l.labels;
}

abbrev pub decreases-loop-rest : goal.decreases-loop-rest
decreases-loop-rest l = length l.rest
