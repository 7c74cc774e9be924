use Rattle.drawing_picture.proofs.DrawnLemmas.{picture_is}
use Rattle.drawing_picture.proofs.drawn_picture.picture_of_drawing.Goals as goal

pub returns : goal.returns
returns c = picture_is _ _ _ _ _ _ _ _ c.in_ok-pieces.ensures.cut (rw c.as_slice.ensures at c.in_ok-marks.ensures)
    c.in_ok-meetings.ensures (rw c.as_slice-2.ensures at c.in_ok-labels.ensures)
    (rw (c.as_slice-3.ensures, c.as_slice-4.ensures, c.as_slice-5.ensures, c.len.ensures) at c.in_ok-text.ensures)
