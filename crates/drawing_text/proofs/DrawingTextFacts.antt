-- Worked values of drawing texts: drawings, and the first faults of texts.
use Rattle.std.proofs.Common.{◌≡◌, ℕ, pos, negsuc, false, true, List, [], ◌∷◌, ◌++◌, Ok, Err, codes, refl}
use Rattle.drawing_text.specs.TextLines.{empty_draft}
use Rattle.drawing_text.proofs.Names.{flat_map, LineValue, lines_through, DrawKind, DrawingValue, body_of_text, drawing_as2, drawing_of, begins_comment, text_lines, line_without_return, words_of_line, located_fault}
use Rattle.drawing_text.specs.declared.version.Version.TheVariants as version
use Rattle.line_graph.specs.declared.draw_kind.DrawKind.TheVariants as kind
use Rattle.drawing_text.proofs.CanonicalTextFacts.{place}

-- lines with their ends
abbrev text : List (List ℕ) → List ℕ
text lines = flat_map (λ line. line ++ 10 ∷ []) lines

-- bytes after the last line feed are a line, and an empty line is one
pub known_text_lines : (text_lines (codes "a" ++ 10 ∷ 10 ∷ codes "b") ≡ codes "a" ∷ [] ∷ codes "b" ∷ [])
    × (text_lines (codes "a" ++ 10 ∷ []) ≡ codes "a" ∷ [])
known_text_lines = (refl, refl)

-- of two carriage returns one stays
pub known_return : line_without_return (97 ∷ 13 ∷ 13 ∷ []) ≡ 97 ∷ 13 ∷ []
known_return = refl

-- spaces and tabs stand between words, and may stand at both ends
pub known_words : words_of_line (32 ∷ 9 ∷ 97 ∷ 98 ∷ 32 ∷ 32 ∷ 99 ∷ 9 ∷ []) ≡ codes "ab" ∷ codes "c" ∷ []
known_words = refl

-- a word without bytes begins no comment
pub known_comment : (begins_comment [] ≡ false) × (begins_comment (codes "#step") ≡ true) × (begins_comment (codes "step#") ≡ false)
known_comment = (refl, refl, refl)

-- the header is in the third line, after a comment and an empty line, and all lines after it are kept
pub known_body : body_of_text (text (codes "# a rose" ∷ [] ∷ codes "redwork 2" ∷ codes "# red" ∷ codes "step 30" ∷ []))
    ≡ Ok (record { version = version.Two; header = 3; lines = (codes "#" ∷ codes "red" ∷ []) ∷ (codes "step" ∷ codes "30" ∷ []) ∷ [] })
known_body = refl

-- a square, and a line forth and back, in two blocks, with comments and signs as they may stand
abbrev pub two_squares : DrawingValue
two_squares = record {
  label = [];
  step = 30;
  threads = 3 ∷ 9 ∷ [];
  lines = record {
    block = 0;
    points = place (pos 0) (pos 0) ∷ place (pos 30) (pos 0) ∷ place (pos 30) (pos 30) ∷ place (pos 0) (pos 30)
        ∷ place (pos 0) (pos 0) ∷ [];
  } ∷ record {
    block = 1;
    points = place (pos 300) (pos 0) ∷ place (negsuc 29) (pos 0) ∷ place (pos 300) (pos 0) ∷ [];
  } ∷ [];
  starts = [];
  ends = [];
}

pub known_drawing_of : (drawing_of (text (codes "# squares" ∷ [] ∷ codes " redwork  1 " ∷ codes "step 030"
    ∷ (codes "color 3" ++ 13 ∷ []) ∷ codes "line 0 0 30 0 30 30 0 30 0 -0" ∷ codes "color 9" ∷ [])
    ++ codes "line 300 0 -30 0 300 0")
    ≡ Ok two_squares)
    -- the least and the greatest numbers, and the step 25 where none is given; letters may follow a comment's hash sign
    × (drawing_of (text (codes "redwork 1" ∷ codes "color 255" ∷ codes "#wide" ∷ codes "line -30000 30000 0 0" ∷ codes "color 0"
    ∷ codes "line 0 0 30000 -30000" ∷ []))
    ≡ Ok (record {
      label = [];
      step = 25;
      threads = 255 ∷ 0 ∷ [];
      lines = record { block = 0; points = place (negsuc 29999) (pos 30000) ∷ place (pos 0) (pos 0) ∷ [] }
          ∷ record { block = 1; points = place (pos 0) (pos 0) ∷ place (pos 30000) (negsuc 29999) ∷ [] } ∷ [];
      starts = [];
      ends = [];
    }))
    -- the longest step, and a name after it
    × (drawing_of (text (codes "redwork 1" ∷ codes "step 2047" ∷ codes "name ab" ∷ codes "color 1" ∷ codes "line 0 0 3 4" ∷ []))
    ≡ Ok (record {
      label = codes "ab";
      step = 2047;
      threads = 1 ∷ [];
      lines = record { block = 0; points = place (pos 0) (pos 0) ∷ place (pos 3) (pos 4) ∷ [] } ∷ [];
      starts = [];
      ends = [];
    }))
known_drawing_of = (refl, refl, refl)

-- lines through one point, and their sections
abbrev crossing : List (List ℕ)
crossing = codes "step 10" ∷ codes "color 1" ∷ codes "line 0 0 10 0 20 0" ∷ codes "line 10 -10 10 0 10 10" ∷ []

abbrev drawn : List LineValue → DrawingValue
drawn lines = record { label = []; step = 10; threads = 1 ∷ []; lines = lines; starts = []; ends = [] }

abbrev uncut : DrawingValue
uncut = drawn (lines_through 0 ((place (pos 0) (pos 0) ∷ place (pos 10) (pos 0) ∷ place (pos 20) (pos 0) ∷ [])
    ∷ (place (pos 10) (negsuc 9) ∷ place (pos 10) (pos 0) ∷ place (pos 10) (pos 10) ∷ []) ∷ []))

abbrev crossed : DrawingValue
crossed = drawn (lines_through 0 ((place (pos 0) (pos 0) ∷ place (pos 10) (pos 0) ∷ [])
    ∷ (place (pos 10) (pos 0) ∷ place (pos 20) (pos 0) ∷ [])
    ∷ (place (pos 10) (negsuc 9) ∷ place (pos 10) (pos 0) ∷ [])
    ∷ (place (pos 10) (pos 0) ∷ place (pos 10) (pos 10) ∷ []) ∷ []))

-- a text is read in the version that it names, and each text of version 1 is read as version 2 too
pub known_versions : (drawing_of (text (codes "redwork 1" ∷ crossing)) ≡ Ok uncut)
    × (drawing_of (text (codes "redwork 2" ∷ crossing)) ≡ Ok crossed)
    × (drawing_as2 (text (codes "redwork 1" ∷ crossing)) ≡ Ok crossed)
    × (drawing_as2 (text (codes "redwork 2" ∷ crossing)) ≡ Ok crossed)
known_versions = (refl, refl, refl, refl)

-- the text of these lines has that fault first
abbrev Tells : List (List ℕ) → ℕ → DrawKind → Type 0
Tells lines number why = drawing_of (text lines) ≡ Err (record { number = number; kind = why })

-- the header, compared as words: the first line that isn't ignored, or the one after the text
pub known_headers : Tells [] 1 kind.BadHeader
    × Tells (codes "# a" ∷ [] ∷ []) 3 kind.BadHeader
    × Tells (codes "redwork 01" ∷ []) 1 kind.BadHeader
    × Tells (codes "redwork 4" ∷ []) 1 kind.BadHeader
    × Tells ([] ∷ codes "redwork 1 2" ∷ []) 2 kind.BadHeader
    × Tells (codes "redwork" ∷ []) 1 kind.BadHeader
    × Tells (codes "redworks 1" ∷ []) 1 kind.BadHeader
known_headers = (refl, refl, refl, refl, refl, refl, refl)

-- after the header
abbrev Faults : List (List ℕ) → ℕ → DrawKind → Type 0
Faults lines number why = Tells (codes "redwork 1" ∷ lines) number why

-- a name is one word of printable signs, once, and before any block
pub known_names : Faults (codes "name" ∷ []) 2 kind.BadWord
    × Faults (codes "name a b" ∷ []) 2 kind.BadWord
    × Faults (codes "name abcdefghijklmnopq" ∷ []) 2 kind.BadWord
    × Faults ((codes "name " ++ 127 ∷ []) ∷ []) 2 kind.BadWord
    × Faults ((codes "name a" ++ 13 ∷ 13 ∷ []) ∷ []) 2 kind.BadWord
    × Faults (codes "name a" ∷ codes "name b" ∷ []) 3 kind.BadWord
    × Faults (codes "color 1" ∷ codes "name a" ∷ []) 3 kind.BadWord
known_names = (refl, refl, refl, refl, refl, refl, refl)

-- a step is one number from 1 to 2047, once, and before any block
pub known_steps : Faults (codes "step" ∷ []) 2 kind.BadWord
    × Faults (codes "step 9" ∷ codes "step x" ∷ []) 3 kind.BadWord
    × Faults (codes "color 1" ∷ codes "step 9" ∷ []) 3 kind.BadWord
    × Faults (codes "step +5" ∷ []) 2 kind.BadNumber
    × Faults (codes "step 0" ∷ []) 2 kind.OutOfRange
    × Faults (codes "step 2048" ∷ []) 2 kind.OutOfRange
    × Faults (codes "step 99999999999999999999" ∷ []) 2 kind.OutOfRange
    × Faults (codes "step 9999999999999999999x" ∷ []) 2 kind.BadNumber
known_steps = (refl, refl, refl, refl, refl, refl, refl, refl)

-- where there may be no step, its number isn't judged
pub known_steps_first : Faults (codes "color 1" ∷ codes "step x" ∷ []) 3 kind.BadWord
    × Faults (codes "color 1" ∷ codes "step 2048" ∷ []) 3 kind.BadWord
    × Faults (codes "step 9" ∷ codes "step 0" ∷ []) 3 kind.BadWord
    × Faults (codes "step x 9" ∷ []) 2 kind.BadWord
known_steps_first = (refl, refl, refl, refl)

-- an empty block is found at the next block or at the end, and reported where it was opened
pub known_blocks : Faults (codes "color 1 2" ∷ []) 2 kind.BadWord
    × Faults (codes "color 256" ∷ []) 2 kind.OutOfRange
    × Faults (codes "color -1" ∷ []) 2 kind.OutOfRange
    × Faults (codes "color 1" ∷ []) 2 kind.EmptyBlock
    × Faults (codes "color 1" ∷ [] ∷ codes "color 2" ∷ []) 2 kind.EmptyBlock
    × Faults (codes "color 1" ∷ codes "color x" ∷ []) 3 kind.BadNumber
    × Faults (codes "color 1" ∷ codes "foo" ∷ []) 3 kind.BadWord
    × Faults (codes "color 1" ∷ codes "line 0 0" ∷ codes "color 2" ∷ []) 3 kind.FewPoints
    × Faults (codes "name a" ∷ []) 3 kind.NoBlock
known_blocks = (refl, refl, refl, refl, refl, refl, refl, refl, refl)

-- a line is judged to its end, from left to right
pub known_strokes : Faults (codes "line 0 0 x" ∷ []) 2 kind.NoBlock
    × Faults (codes "color 1" ∷ codes "line" ∷ []) 3 kind.FewPoints
    × Faults (codes "color 1" ∷ codes "line 0 0 1" ∷ []) 3 kind.FewPoints
    × Faults (codes "color 1" ∷ codes "line 0 0 0 0 1" ∷ []) 3 kind.FewPoints
    × Faults (codes "color 1" ∷ codes "line 30001 x" ∷ []) 3 kind.OutOfRange
    × Faults (codes "color 1" ∷ codes "line x -30001" ∷ []) 3 kind.BadNumber
    × Faults (codes "color 1" ∷ codes "line -30001 x" ∷ []) 3 kind.OutOfRange
    × Faults (codes "color 1" ∷ codes "line 0 0 0 0 0 x" ∷ []) 3 kind.BadNumber
    × Faults (codes "color 1" ∷ codes "line 1 2 01 2" ∷ []) 3 kind.RepeatedPoint
    × Faults (codes "color 1" ∷ codes "line 0 0 1 1 #" ∷ []) 3 kind.BadNumber
known_strokes = (refl, refl, refl, refl, refl, refl, refl, refl, refl, refl)

-- seven lines of 30000 steps each; the last is one too many
pub known_cost : Faults (codes "step 1" ∷ codes "color 1" ∷ codes "line 0 0 30000 0" ∷ codes "line 0 0 30000 0"
    ∷ codes "line 0 0 30000 0" ∷ codes "line 0 0 30000 0" ∷ codes "line 0 0 30000 0" ∷ codes "line 0 0 30000 0"
    ∷ codes "line 0 0 30000 0" ∷ []) 10 kind.TooMuchCost
known_cost = refl

-- want of memory has no line
pub known_memory : located_fault 7 3 kind.Memory ≡ record { number = 0; kind = kind.Memory }
known_memory = refl

-- the header opens no block
pub known_empty_draft : (empty_draft.named ≡ false) × (empty_draft.stepped ≡ false) × (empty_draft.opened ≡ 0) × (empty_draft.ends ≡ [])
known_empty_draft = (refl, refl, refl, refl)
