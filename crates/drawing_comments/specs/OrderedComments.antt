-- The comments of lines that were cut into sections, and of these in another order. Sections are
-- found by their block and their points.
use Rattle.std.specs.Prelude.{ℕ, ◌-◌, ◌==◌, ◌&&◌, Bool, true, false, List, [], ◌∷◌, drop, length, if◌then◌else◌}
use Rattle.std.specs.List.{count_by}
use Rattle.line_sections.specs.Lines.{LineValue, is_same_line}
use Rattle.drawing_comments.specs.declared.text_comments.TextComments.{TextComments}
use Rattle.drawing_comments.specs.CommentedTexts.{first_comment}
use Rattle.drawing_comments.specs.CommentLaws.{AreTextComments}

-- The number of segments of the first of lines, or 0 where there is none.
abbrev pub first_segments : List LineValue → ℕ
first_segments [] = 0
first_segments (line ∷ rest) = length line.points - 1

-- The number of segments that are still to come of a line after a section. The section begins the
-- next line where none are to come before it.
abbrev pub ahead_after : (begins : Bool) → (ahead : ℕ) → List LineValue → LineValue → ℕ
ahead_after begins ahead lines section =
    (if begins then first_segments lines else ahead) - (length section.points - 1)

-- The first comment where a line begins, and none else.
abbrev pub comment_if : (begins : Bool) → List (List ℕ) → List ℕ
comment_if begins comments = if begins then first_comment comments else []

-- A list without its first item where a line begins.
abbrev pub past_if : {A : Type 0} → (begins : Bool) → List A → List A
past_if begins items = if begins then drop 1 items else items

-- The comments of sections of lines, where a number of segments of the line before are still to
-- come: a comment is before the first section of its line.
abbrev pub section_comments : (ahead : ℕ) → List LineValue → List (List ℕ) → List LineValue
    → List (List ℕ)
section_comments ahead lines comments [] = []
section_comments ahead lines comments (section ∷ rest) = comment_if (ahead == 0) comments
    ∷ section_comments (ahead_after (ahead == 0) ahead lines section) (past_if (ahead == 0) lines)
    (past_if (ahead == 0) comments) rest

-- Comments of a text whose lines were cut into sections in their order.
abbrev pub comments_of_cut : TextComments → (lines sections : List LineValue) → TextComments
comments_of_cut c lines sections = record c {
  lines = section_comments 0 lines c.lines sections;
}

-- The comment of that line among lines which is the same as a line, and after which so many more
-- are.
abbrev pub comment_of_same : LineValue → ℕ → List LineValue → List (List ℕ) → List ℕ
comment_of_same line count [] comments = []
comment_of_same line count (other ∷ rest) comments =
    if is_same_line line other && (count_by (is_same_line line) rest == count)
    then first_comment comments else comment_of_same line count rest (drop 1 comments)

-- The comments of lines that come in another order: of lines that are the same each has that of the
-- one with as many after it.
abbrev pub ordered_comments : (before : List LineValue) → List (List ℕ) → List LineValue
    → List (List ℕ)
ordered_comments before comments [] = []
ordered_comments before comments (line ∷ rest) =
    comment_of_same line (count_by (is_same_line line) rest) before comments
    ∷ ordered_comments before comments rest

-- Comments of a text whose lines were cut into sections that come in another order.
abbrev pub comments_of_sections : TextComments → (lines sections ordered : List LineValue)
    → TextComments
comments_of_sections c lines sections ordered = record c {
  lines = ordered_comments sections (section_comments 0 lines c.lines sections) ordered;
}

-- The comments of sections in their order are comments.
abbrev pub CutsKeepComments : Type 0
CutsKeepComments = (c : TextComments) (lines sections : List LineValue) → AreTextComments c
    → AreTextComments (comments_of_cut c lines sections)

-- The comments of sections are comments.
abbrev pub SectionsKeepComments : Type 0
SectionsKeepComments = (c : TextComments) (lines sections ordered : List LineValue)
    → AreTextComments c → AreTextComments (comments_of_sections c lines sections ordered)
