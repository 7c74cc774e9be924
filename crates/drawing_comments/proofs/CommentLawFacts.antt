-- What the laws of comments exclude.
use Rattle.std.proofs.Common.{◌≡◌, ◌≢◌, ◌∙◌, ℕ, List, [], ◌∷◌, ◌++◌, Result, Ok, length, codes, ap, sym, subst, arith}
use Rattle.drawing_comments.specs.CommentLaws.{AreComments, AreTextComments, CommentsKeepLines, FoundAreComments, SpokenLinesDecide, spoken_lines}
use Rattle.drawing_comments.specs.CommentedTexts.{comments_of, with_comments}
use Rattle.drawing_comments.specs.MovedComments.{PartsKeepComments, comments_of_parts}
use Rattle.drawing_comments.specs.OrderedComments.{CutsKeepComments, SectionsKeepComments, comments_of_cut, comments_of_sections}
use Rattle.drawing_comments.specs.declared.text_comments.TextComments.{TextComments}
use Rattle.drawing_text.specs.DrawingText.{drawing_of}
use Rattle.drawing_text.specs.DrawnTexts.{drawing_as_drawn}
use Rattle.line_graph.specs.Drawings.{DrawingValue}
use Rattle.line_sections.specs.Lines.{LineValue}

-- comments of a text, with these before its first block
abbrev commented : (top block line last : List ℕ) → TextComments
commented top block line last = record { top = top; blocks = block ∷ []; lines = line ∷ []; last = last }

abbrev hash : List ℕ
hash = codes "#a" ++ 10 ∷ []

-- bytes of which a word is read are no comments, be they at the top, before a block or a line, or at the end
spoken : AreComments (codes "a" ++ 10 ∷ []) → ⊥
spoken are = let counts : 1 ≡ 0 = ap (λ (lines : List (List (List ℕ))). length lines) (are []) in omega (arith, counts)

pub known_spoken : AreComments (codes "a" ++ 10 ∷ []) → ⊥
known_spoken are = spoken are

pub known_no_comments : (AreTextComments (commented (codes "a" ++ 10 ∷ []) hash hash hash) → ⊥)
    × (AreTextComments (commented hash (codes "a" ++ 10 ∷ []) hash hash) → ⊥)
    × (AreTextComments (commented hash hash (codes "a" ++ 10 ∷ []) hash) → ⊥)
    × (AreTextComments (commented hash hash hash (codes "a" ++ 10 ∷ [])) → ⊥)
known_no_comments = (
  λ are. spoken are.top,
  λ are. spoken (are.blocks 0 [] (omega arith)),
  λ are. spoken (are.lines 0 [] (omega arith)),
  λ are. spoken are.last,
)

-- a text that differs from a drawing's by comments alone has no other drawing, and no fault
pub refuted_spoken : SpokenLinesDecide → (text : List ℕ) (d : DrawingValue) (other : Result DrawingValue _) → other ≢ Ok d
    → spoken_lines text ≡ spoken_lines (hash ++ text)
    → (drawing_of text ≡ Ok d → drawing_of (hash ++ text) ≡ other → ⊥)
    × (drawing_as_drawn text ≡ Ok d → drawing_as_drawn (hash ++ text) ≡ other → ⊥)
refuted_spoken law text d other differ same = (
  λ read is. differ (sym is ∙ (law text (hash ++ text) d same).0 read),
  λ read is. differ (sym is ∙ (law text (hash ++ text) d same).1 read),
)

-- what is found of a text, and what becomes of it where lines are cut, left out or ordered anew, is comments
pub refuted_found : FoundAreComments → (text : List ℕ) → comments_of text ≡ commented hash hash (codes "a" ++ 10 ∷ []) hash → ⊥
refuted_found law text is = known_no_comments.2 (subst (λ (c : TextComments). AreTextComments c) is (law text))

pub refuted_parts : PartsKeepComments → (c : TextComments) (counts : List ℕ) → AreTextComments c
    → comments_of_parts c counts ≡ commented hash hash (codes "a" ++ 10 ∷ []) hash → ⊥
refuted_parts law c counts are is =
    known_no_comments.2 (subst (λ (new : TextComments). AreTextComments new) is (law c counts are))

pub refuted_cuts : CutsKeepComments → (c : TextComments) (lines sections : List LineValue) → AreTextComments c
    → comments_of_cut c lines sections ≡ commented hash hash (codes "a" ++ 10 ∷ []) hash → ⊥
refuted_cuts law c lines sections are is =
    known_no_comments.2 (subst (λ (new : TextComments). AreTextComments new) is (law c lines sections are))

pub refuted_sections : SectionsKeepComments → (c : TextComments) (lines sections ordered : List LineValue) → AreTextComments c
    → comments_of_sections c lines sections ordered ≡ commented hash hash (codes "a" ++ 10 ∷ []) hash → ⊥
refuted_sections law c lines sections ordered are is =
    known_no_comments.2 (subst (λ (new : TextComments). AreTextComments new) is (law c lines sections ordered are))

-- comments leave no line out, and add none
pub refuted_lines : CommentsKeepLines → (c : TextComments) (text : List ℕ) → AreTextComments c
    → spoken_lines (with_comments c text) ≡ [] → spoken_lines text ≢ [] → ⊥
refuted_lines law c text are none some = some (sym (law c text are) ∙ none)
