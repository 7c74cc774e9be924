-- The comments of sections in another order are comments.
use Rattle.std.proofs.Common.{ℕ, ◌==◌, ◌&&◌, Bool, true, false, cond, List, [], ◌∷◌, All, drop}
use Rattle.std.proofs.lemmas.List.Elements.{All-cons, All-nil}
use Rattle.std.specs.List.{count_by}
use Rattle.line_sections.specs.Lines.{LineValue, is_same_line}
use Rattle.drawing_comments.proofs.CommentLemmas.{first_are, left_are, none_are}
use Rattle.drawing_comments.specs.CommentLaws.{AreComments}
use Rattle.drawing_comments.specs.CommentedTexts.{first_comment}
use Rattle.drawing_comments.specs.OrderedComments.{CutsKeepComments, SectionsKeepComments, comment_if, comment_of_same, ahead_after, ordered_comments, past_if, section_comments}

comment_if_is : (begins : Bool) (comments : List (List ℕ)) → All AreComments comments → AreComments (comment_if begins comments)
comment_if_is true comments are = first_are comments are
comment_if_is false comments are = none_are

past_if_are : (begins : Bool) (comments : List (List ℕ)) → All AreComments comments → All AreComments (past_if begins comments)
past_if_are true comments are = left_are comments are
past_if_are false comments are = are

section_comments_are : (sections : List LineValue) (ahead : ℕ) (lines : List LineValue) (comments : List (List ℕ))
    → All AreComments comments → All AreComments (section_comments ahead lines comments sections)
section_comments_are [] ahead lines comments are = All-nil AreComments
section_comments_are (section ∷ rest) ahead lines comments are =
    let begins : Bool = ahead == 0 in
    All-cons AreComments (comment_if begins comments)
    (section_comments (ahead_after begins ahead lines section) (past_if begins lines) (past_if begins comments) rest)
    (comment_if_is begins comments are)
    (section_comments_are rest (ahead_after begins ahead lines section) (past_if begins lines) (past_if begins comments)
    (past_if_are begins comments are))

comment_of_same_is : (line : LineValue) (count : ℕ) (lines : List LineValue) (comments : List (List ℕ)) → All AreComments comments
    → AreComments (comment_of_same line count lines comments)
comment_of_same_is line count [] comments are = none_are
comment_of_same_is line count (other ∷ rest) comments are =
    by_test (is_same_line line other && (count_by (is_same_line line) rest == count))
    (comment_of_same_is line count rest (drop 1 comments) (left_are comments are))
  where
    by_test : (t : Bool) → AreComments (comment_of_same line count rest (drop 1 comments))
        → AreComments (cond t (first_comment comments) (comment_of_same line count rest (drop 1 comments)))
    by_test true later = first_are comments are
    by_test false later = later

ordered_are : (ordered before : List LineValue) (comments : List (List ℕ)) → All AreComments comments
    → All AreComments (ordered_comments before comments ordered)
ordered_are [] before comments are = All-nil AreComments
ordered_are (line ∷ rest) before comments are =
    All-cons AreComments (comment_of_same line (count_by (is_same_line line) rest) before comments) (ordered_comments before comments rest)
    (comment_of_same_is line (count_by (is_same_line line) rest) before comments are) (ordered_are rest before comments are)

pub cuts_keep_comments : CutsKeepComments
cuts_keep_comments = λ c lines sections are. record {
  top = are.top;
  blocks = are.blocks;
  lines = section_comments_are sections 0 lines c.lines are.lines;
  last = are.last;
}

pub sections_keep_comments : SectionsKeepComments
sections_keep_comments = λ c lines sections ordered are. record {
  top = are.top;
  blocks = are.blocks;
  lines = ordered_are ordered sections (section_comments 0 lines c.lines sections)
      (section_comments_are sections 0 lines c.lines are.lines);
  last = are.last;
}
