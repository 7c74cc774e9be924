-- Worked values of comments: which line each belongs to, and where it is written.
use Rattle.std.proofs.Common.{◌≡◌, ℕ, true, false, List, [], ◌∷◌, ◌++◌, codes, refl}
use Rattle.drawing_comments.specs.CommentedTexts.{comments_of, with_comments}
use Rattle.drawing_comments.specs.MovedComments.{comments_of_parts, has_no_line_comments}
use Rattle.drawing_comments.specs.declared.text_comments.TextComments.{TextComments}

-- a text line
abbrev line : List ℕ → List ℕ
line text = text ++ 10 ∷ []

-- comments at the top, before a block, a line and the second block, and at the end; the second line has none
abbrev commented : List ℕ
commented = line (codes "#t") ++ (line (codes "redwork 2") ++ (line (codes "#u") ++ (line (codes "step 9") ++ (line (codes " # c")
    ++ (line (codes "color 1") ++ (codes "#l" ++ (13 ∷ (10 ∷ (line [] ++ (line (codes "\tline 0 0 9 0") ++ (line (codes "line 0 9 9 9")
    ++ (line (codes "#s") ++ (line (codes "start 0 0") ++ (line (codes "#d") ++ (line (codes "color 2") ++ (line (codes "line 0 0 9 1")
    ++ codes "#e"))))))))))))))))

abbrev found : TextComments
found = record {
  top = line (codes "#t") ++ line (codes "#u");
  blocks = line (codes " # c") ∷ (line (codes "#s") ++ line (codes "#d")) ∷ [];
  lines = line (codes "#l") ∷ [] ∷ [] ∷ [];
  last = line (codes "#e");
}

pub known_found : comments_of commented ≡ found
known_found = refl

-- each is written before its line
pub known_written : with_comments found (line (codes "redwork 2") ++ (line (codes "color 1") ++ (line (codes "line 0 0 9 0")
    ++ (line (codes "line 0 9 9 9") ++ (line (codes "color 2") ++ line (codes "line 0 0 9 1"))))))
    ≡ line (codes "#t") ++ (line (codes "#u") ++ (line (codes "redwork 2") ++ (line (codes " # c") ++ (line (codes "color 1")
    ++ (line (codes "#l") ++ (line (codes "line 0 0 9 0") ++ (line (codes "line 0 9 9 9") ++ (line (codes "#s") ++ (line (codes "#d")
    ++ (line (codes "color 2") ++ (line (codes "line 0 0 9 1") ++ line (codes "#e"))))))))))))
known_written = refl

-- a line that is cut in three has its comment before the first part, and one that is left out has none
pub known_parts : comments_of_parts (record found { lines = codes "#a" ∷ codes "#b" ∷ codes "#c" ∷ [] }) (3 ∷ 0 ∷ 1 ∷ [])
    ≡ record found { lines = codes "#a" ∷ [] ∷ [] ∷ codes "#c" ∷ [] }
known_parts = refl

-- one of several lines has a comment, or none has
pub known_no_line_comments : (has_no_line_comments found ≡ false)
    × (has_no_line_comments (record found { lines = [] ∷ codes "#b" ∷ [] }) ≡ false)
    × (has_no_line_comments (record found { lines = [] ∷ [] ∷ [] }) ≡ true)
known_no_line_comments = (refl, refl, refl)
