use Rattle.drawing_picture.specs.declared.labels.TheConstants.{MAX_LABELS}
use Rattle.drawing_picture.proofs.LabelLemmas.{labels_are}
use Rattle.drawing_picture.proofs.labels.labels_of.Goals as goal

pub returns : goal.returns
returns c = labels_are MAX_LABELS c.args.pieces.now c.first_pieces.result.now c.args.lines.now
    c.lines_with_labels.result.now _ _ _ c.new-labels.ensures c.first_pieces.ensures c.lines_with_labels.ensures
    c.in_ok-put_piece_labels.ensures c.in_ok-put_line_labels.ensures
