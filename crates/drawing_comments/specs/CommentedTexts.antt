-- The comments of a drawing text, and a text with comments before its lines. Own format: a comment
-- belongs to the next line that begins with `color` or `line`. In the text of a drawing the first
-- letter of a line tells what it is: 35 is `#`, 99 is `c`, 108 is `l`.
use Rattle.std.specs.Prelude.{ℕ, ◌==◌, List, [], ◌∷◌, ◌++◌, Option, Some, None, drop, length, if◌then◌else◌}
use Rattle.drawing_text.specs.Words.{is_blank_byte, line_without_return}
use Rattle.text_parts.specs.Parts.{parts_between}
use Rattle.drawing_comments.specs.declared.text_comments.TextComments.{TextComments}

-- The first byte of a line that isn't a blank, if there is one.
abbrev pub line_mark : List ℕ → Option ℕ
line_mark [] = None
line_mark (b ∷ rest) = if is_blank_byte b then line_mark rest else Some b

-- A comment line, as it is written: without a return, and with the end of the line.
abbrev pub comment_line : List ℕ → List ℕ
comment_line line = line_without_return line ++ 10 ∷ []

-- Comments with one more comment line, which is kept until it is known where it belongs.
abbrev pub comment_found : TextComments → List ℕ → TextComments
comment_found c line = record c { last = c.last ++ comment_line line }

-- Comments after a line that opens a block: those that were kept are before it.
abbrev pub block_found : TextComments → TextComments
block_found c = record c { blocks = c.blocks ++ c.last ∷ []; last = [] }

-- Comments after a line of points: those that were kept are before it.
abbrev pub line_found : TextComments → TextComments
line_found c = record c { lines = c.lines ++ c.last ∷ []; last = [] }

-- Comments after another line: those that were kept are at the top if no block is open yet, and
-- else are kept.
abbrev pub other_found : TextComments → TextComments
other_found c = if length c.blocks == 0 then record c { top = c.top ++ c.last; last = [] } else c

-- Comments after a line with the given first byte.
abbrev pub comments_by_mark : TextComments → List ℕ → Option ℕ → TextComments
comments_by_mark c line None = c
comments_by_mark c line (Some mark) =
    if mark == 35 then comment_found c line
    else if mark == 99 then block_found c
    else if mark == 108 then line_found c
    else other_found c

-- Comments after one more line.
abbrev pub comments_after : TextComments → List ℕ → TextComments
comments_after c line = comments_by_mark c line (line_mark line)

-- Comments after lines in order.
abbrev pub comments_from : TextComments → List (List ℕ) → TextComments
comments_from c [] = c
comments_from c (line ∷ rest) = comments_from (comments_after c line) rest

-- No comments.
abbrev pub no_comments : TextComments
no_comments = record { top = []; blocks = []; lines = []; last = [] }

-- The comments of a text, by the blocks and lines that they belong to.
abbrev pub comments_of : List ℕ → TextComments
comments_of text = comments_from no_comments (parts_between 10 text)

-- The first of several comments, or none.
abbrev pub first_comment : List (List ℕ) → List ℕ
first_comment [] = []
first_comment (comment ∷ rest) = comment

-- The comments before a line with the given first byte, if this is the wanted one.
abbrev pub comment_at : (wanted : ℕ) → Option ℕ → List (List ℕ) → List ℕ
comment_at wanted None comments = []
comment_at wanted (Some mark) comments = if mark == wanted then first_comment comments else []

-- The comments that are left after a line with the given first byte.
abbrev pub comments_past : (wanted : ℕ) → Option ℕ → List (List ℕ) → List (List ℕ)
comments_past wanted None comments = comments
comments_past wanted (Some mark) comments = if mark == wanted then drop 1 comments else comments

-- The comments of a block or a line before a line with the given first byte.
abbrev pub comments_by : TextComments → Option ℕ → List ℕ
comments_by c mark = comment_at 99 mark c.blocks ++ comment_at 108 mark c.lines

-- The comments that are left after a line with the given first byte.
abbrev pub comments_left : TextComments → Option ℕ → TextComments
comments_left c mark = record c {
  blocks = comments_past 99 mark c.blocks;
  lines = comments_past 108 mark c.lines;
}

-- The lines of a text, each after its comments. The last comments come at the end.
abbrev pub lines_with : TextComments → List (List ℕ) → List ℕ
lines_with c [] = []
lines_with c (line ∷ []) = c.last ++ line
lines_with c (line ∷ next ∷ rest) = comments_by c (line_mark line)
    ++ (line ++ 10 ∷ lines_with (comments_left c (line_mark line)) (next ∷ rest))

-- A text with comments: those at its top, and then its lines, each after its comments.
abbrev pub with_comments : TextComments → List ℕ → List ℕ
with_comments c text = c.top ++ lines_with c (parts_between 10 text)
