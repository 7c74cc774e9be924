-- Laws of comments: they change no drawing.
use Rattle.std.specs.Prelude.{◌≡◌, ℕ, not, List, ◌++◌, Ok, All, filter}
use Rattle.line_graph.specs.Drawings.{DrawingValue}
use Rattle.drawing_text.specs.DrawingText.{drawing_of}
use Rattle.drawing_text.specs.DrawnTexts.{drawing_as_drawn}
use Rattle.drawing_text.specs.Words.{is_ignored_line, words_by_line}
use Rattle.drawing_comments.specs.declared.text_comments.TextComments.{TextComments}
use Rattle.drawing_comments.specs.CommentedTexts.{comments_of, with_comments}

-- The words of the lines of a text that aren't empty or comments.
abbrev pub spoken_lines : List ℕ → List (List (List ℕ))
spoken_lines text = filter (λ words. not (is_ignored_line words)) (words_by_line text)

-- Texts whose lines are the same but for comments and empty lines describe the same drawing, and
-- the same lines as they are drawn.
abbrev pub SpokenLinesDecide : Type 0
SpokenLinesDecide = (text other : List ℕ) (d : DrawingValue)
    → spoken_lines text ≡ spoken_lines other
    → (drawing_of text ≡ Ok d → drawing_of other ≡ Ok d)
    × (drawing_as_drawn text ≡ Ok d → drawing_as_drawn other ≡ Ok d)

-- Bytes are comments: before a text they change none of its lines.
abbrev pub AreComments : List ℕ → Type 0
AreComments bytes = (text : List ℕ) → spoken_lines (bytes ++ text) ≡ spoken_lines text

-- All comments of a text are comments.
pub record AreTextComments (c : TextComments) : Type 0 where
  pub top : AreComments c.top
  pub blocks : All AreComments c.blocks
  pub lines : All AreComments c.lines
  pub last : AreComments c.last

-- What is found of a text are comments.
abbrev pub FoundAreComments : Type 0
FoundAreComments = (text : List ℕ) → AreTextComments (comments_of text)

-- A text with comments has the lines of the text.
abbrev pub CommentsKeepLines : Type 0
CommentsKeepLines = (c : TextComments) (text : List ℕ) → AreTextComments c
    → spoken_lines (with_comments c text) ≡ spoken_lines text
