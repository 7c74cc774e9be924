-- The comments of lines that were cut or left out.
use Rattle.std.specs.Prelude.{ℕ, zero, suc, ◌==◌, Bool, List, [], ◌∷◌, ◌++◌, length}
use Rattle.std.specs.List.{list_all}
use Rattle.drawing_comments.specs.declared.text_comments.TextComments.{TextComments}
use Rattle.drawing_comments.specs.CommentLaws.{AreTextComments}

-- A number of lines without comments.
abbrev pub uncommented : ℕ → List (List ℕ)
uncommented zero = []
uncommented (suc n) = [] ∷ uncommented n

-- The comments of the parts of a line: its comment is before the first part. Where no part is left,
-- it is left out with the line.
abbrev pub part_comments : List ℕ → ℕ → List (List ℕ)
part_comments comment zero = []
part_comments comment (suc n) = comment ∷ uncommented n

-- The comments of the parts of lines, by the number of parts of each.
abbrev pub line_comments : List (List ℕ) → List ℕ → List (List ℕ)
line_comments [] counts = []
line_comments (comment ∷ rest) [] = []
line_comments (comment ∷ rest) (n ∷ counts) = part_comments comment n ++ line_comments rest counts

-- Comments of a text whose lines became parts, by the number of parts of each.
abbrev pub comments_of_parts : TextComments → List ℕ → TextComments
comments_of_parts c counts = record c { lines = line_comments c.lines counts }

-- The comments of a text whose lines are others: those of the lines are left out.
abbrev pub block_comments : TextComments → TextComments
block_comments c = comments_of_parts c []

-- There is no comment: it is empty.
abbrev pub is_empty_comment : List ℕ → Bool
is_empty_comment comment = length comment == 0

-- No line of a text has a comment.
abbrev pub has_no_line_comments : TextComments → Bool
has_no_line_comments c = list_all is_empty_comment c.lines

-- The comments of parts are comments.
abbrev pub PartsKeepComments : Type 0
PartsKeepComments = (c : TextComments) (counts : List ℕ) → AreTextComments c
    → AreTextComments (comments_of_parts c counts)
