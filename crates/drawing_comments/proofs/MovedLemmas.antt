-- The comments of lines that were cut or left out are comments.
use Rattle.std.proofs.Common.{ℕ, zero, suc, List, [], ◌∷◌, All, refl}
use Rattle.std.proofs.lemmas.List.Elements.{All-append, All-cons, All-head, All-nil, All-tail}
use Rattle.drawing_comments.specs.CommentLaws.{AreComments}
use Rattle.drawing_comments.specs.MovedComments.{PartsKeepComments, line_comments, part_comments, uncommented}

uncommented_are : (n : ℕ) → All AreComments (uncommented n)
uncommented_are zero = All-nil AreComments
uncommented_are (suc n) = All-cons AreComments [] (uncommented n) (λ text. refl) (uncommented_are n)

part_comments_are : (comment : List ℕ) (n : ℕ) → AreComments comment → All AreComments (part_comments comment n)
part_comments_are comment zero is = All-nil AreComments
part_comments_are comment (suc n) is = All-cons AreComments comment (uncommented n) is (uncommented_are n)

line_comments_are : (comments : List (List ℕ)) (counts : List ℕ) → All AreComments comments
    → All AreComments (line_comments comments counts)
line_comments_are [] counts are = All-nil AreComments
line_comments_are (comment ∷ rest) [] are = All-nil AreComments
line_comments_are (comment ∷ rest) (n ∷ counts) are = All-append AreComments (part_comments comment n) (line_comments rest counts)
    (part_comments_are comment n (All-head AreComments comment rest are))
    (line_comments_are rest counts (All-tail AreComments comment rest are))

pub parts_keep_comments : PartsKeepComments
parts_keep_comments = λ c counts are. record {
  top = are.top;
  blocks = are.blocks;
  lines = line_comments_are c.lines counts are.lines;
  last = are.last;
}
