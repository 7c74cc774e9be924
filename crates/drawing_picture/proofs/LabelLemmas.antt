-- The labels of the first pieces and of lines are those of all.
use Rattle.std.proofs.Common.{◌≡◌, ℕ, List, [], ◌++◌, arith, map, take}
use Rattle.std.proofs.lemmas.List.{take-map}
use Rattle.drawing_picture.proofs.Names.{LineValue, Piece, graph_of}
use Rattle.drawing_picture.specs.declared.labels.Label.{Label}
use Rattle.drawing_picture.specs.Labels.{labelled_lines, line_labels, piece_labels}

pub labels_are : (most : ℕ) (pieces first : List Piece) (lines kept : List LineValue) (none labels all : List Label) → none ≡ []
    → first ≡ take most pieces → kept ≡ labelled_lines lines → labels ≡ none ++ piece_labels 1 (map graph_of first)
    → all ≡ labels ++ line_labels 1 kept
    → all ≡ piece_labels 1 (take most (map graph_of pieces)) ++ line_labels 1 (labelled_lines lines)
labels_are most pieces first lines kept none labels all none_is first_is kept_is labels_is all_is =
    grind (arith, take-map graph_of most pieces, none_is, first_is, kept_is, labels_is, all_is)
