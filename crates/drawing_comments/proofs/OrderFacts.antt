-- Worked values of the comments of sections in another order.
use Rattle.std.proofs.Common.{◌≡◌, ℕ, pos, List, [], ◌∷◌, codes, refl}
use Rattle.design_model.specs.declared.point.Point.{Point}
use Rattle.line_sections.specs.Lines.{LineValue}
use Rattle.line_sections.specs.Sections.{lines_through}
use Rattle.drawing_comments.specs.declared.text_comments.TextComments.{TextComments}
use Rattle.drawing_comments.specs.OrderedComments.{comments_of_cut, comments_of_sections, ordered_comments, section_comments}

abbrev at : ℕ → ℕ → Point
at x y = record { x = pos x; y = pos y }

-- a line of three segments that is cut in two, and a line of one
abbrev drawn : List LineValue
drawn = lines_through 0 ((at 0 0 ∷ at 2 0 ∷ at 5 0 ∷ at 9 1 ∷ []) ∷ (at 2 0 ∷ at 2 7 ∷ []) ∷ [])

abbrev cut : List LineValue
cut = lines_through 0 ((at 0 0 ∷ at 2 0 ∷ []) ∷ (at 2 0 ∷ at 5 0 ∷ at 9 1 ∷ []) ∷ (at 2 0 ∷ at 2 7 ∷ []) ∷ [])

pub known_cut : section_comments 0 drawn (codes "#a" ∷ codes "#b" ∷ []) cut ≡ codes "#a" ∷ [] ∷ codes "#b" ∷ []
known_cut = refl

-- comments of a text, with those of its lines
abbrev with_lines : List (List ℕ) → TextComments
with_lines lines = record { top = codes "#t"; blocks = codes "#r" ∷ []; lines = lines; last = codes "#e" }

-- the other comments of a text whose lines were cut are kept
pub known_kept : comments_of_cut (with_lines (codes "#a" ∷ codes "#b" ∷ [])) drawn cut
    ≡ with_lines (codes "#a" ∷ [] ∷ codes "#b" ∷ [])
known_kept = refl

-- lines in another order, of which two are the same
pub known_ordered : ordered_comments
    (lines_through 0 ((at 0 0 ∷ at 2 0 ∷ []) ∷ (at 3 0 ∷ at 5 0 ∷ []) ∷ (at 0 0 ∷ at 2 0 ∷ []) ∷ []))
    (codes "#a" ∷ codes "#b" ∷ codes "#c" ∷ [])
    (lines_through 0 ((at 3 0 ∷ at 5 0 ∷ []) ∷ (at 0 0 ∷ at 2 0 ∷ []) ∷ (at 0 0 ∷ at 2 0 ∷ []) ∷ []))
    ≡ codes "#b" ∷ codes "#a" ∷ codes "#c" ∷ []
known_ordered = refl

-- a line that was cut and comes after another one has its comment before its first section
pub known_sections : comments_of_sections (with_lines (codes "#a" ∷ codes "#b" ∷ [])) drawn cut
    (lines_through 0 ((at 2 0 ∷ at 2 7 ∷ []) ∷ (at 0 0 ∷ at 2 0 ∷ []) ∷ (at 2 0 ∷ at 5 0 ∷ at 9 1 ∷ []) ∷ []))
    ≡ with_lines (codes "#b" ∷ codes "#a" ∷ [] ∷ [])
known_sections = refl
