-- Worked values of the words of coordinates, of texts read as they are drawn and joined, and what readers exclude.
use Rattle.std.proofs.Common.{◌≡◌, ◌∙◌, ℕ, ℤ, pos, negsuc, ◌≤◌, true, false, List, [], ◌∷◌, Result, Ok, Err, map, take, drop, codes, ap, refl, sym, arith, true≢false}
use Rattle.drawing_text.proofs.EndTextFacts.{both_ends, crossed, drawn_cross, spot, text}
use Rattle.drawing_text.proofs.Names.{BeginsWithCoordinate, BeginsWithDigits, ends_word, is_word_byte, words_of_line, parsed_coordinate, parsed_digits, parsed_whole, is_digit_string, DrawingValue, DrawFault, DrawKind, Version, WalkEnd, is_joined}
use Rattle.drawing_text.specs.DrawingLines.{drawing_of_lines, lines_read}
use Rattle.drawing_text.specs.DrawingText.{IsDrawingOfVersion, ReadsDrawing, draw_fault_is_out_of_memory}
use Rattle.drawing_text.specs.DrawnTexts.{ReadsLines}
use Rattle.drawing_text.specs.declared.drawn_lines.DrawnLines.{DrawnLines}
use Rattle.drawing_text.specs.declared.version.Version.TheVariants as version
use Rattle.line_graph.specs.declared.draw_kind.DrawKind.TheVariants as kind

-- a space and a tab are in no word, and end one, as the end of the line does
pub known_word_bytes : (map is_word_byte (32 ∷ 9 ∷ 10 ∷ 45 ∷ 97 ∷ []) ≡ false ∷ false ∷ true ∷ true ∷ true ∷ [])
    × (map ends_word ([] ∷ (32 ∷ 97 ∷ []) ∷ (9 ∷ []) ∷ (97 ∷ 32 ∷ []) ∷ []) ≡ true ∷ true ∷ true ∷ false ∷ [])
known_word_bytes = (refl, refl)

-- the first word, or none
abbrev first_word : List (List ℕ) → List ℕ
first_word [] = []
first_word (word ∷ words) = word

abbrev later_words : List (List ℕ) → List (List ℕ)
later_words [] = []
later_words (word ∷ words) = words

-- a line begins with that coordinate, and the rest has the other words
pub known_coordinate : BeginsWithCoordinate (codes " 12  7 x") (Ok (pos 12)) (codes "7 x")
known_coordinate = record { word = codes "12"; words = refl; value = refl }

pub known_other_coordinate : (rest : List ℕ) → BeginsWithCoordinate (codes "12 7") (Err kind.BadNumber) rest → ⊥
known_other_coordinate rest is = other (is.value ∙ ap (λ (word : List ℕ). parsed_coordinate (parsed_whole word))
    (sym (ap first_word is.words)))
  where
    other : ◌≡◌ {A = Result ℤ DrawKind} (Err kind.BadNumber) (Ok (pos 12)) → ⊥
    other same = cc

pub known_coordinate_rest : (answer : Result ℤ DrawKind) (rest : List ℕ) → BeginsWithCoordinate (codes "12 7") answer rest
    → codes "7" ∷ [] ≡ words_of_line rest
known_coordinate_rest answer rest is = ap later_words is.words

-- bytes begin with digits up to the end of a word
pub known_digits : BeginsWithDigits true (codes "12 7") (negsuc 11) (codes " 7")
known_digits = record { count = 2; few = omega arith; digits = refl; left = refl; ends = refl; value = refl }

pub known_half_word : (n : ℤ) → BeginsWithDigits false (codes "12") n (codes "2") → ⊥
known_half_word n is = true≢false (sym is.ends ∙ ap ends_word (sym is.left))

pub known_digits_parts : (n : ℤ) (rest : List ℕ) → BeginsWithDigits false (codes "12 7") n rest
    → (count : ℕ) × (count ≤ 4) × (is_digit_string (take count (codes "12 7")) ≡ true) × (rest ≡ drop count (codes "12 7"))
    × (parsed_coordinate (parsed_digits false (take count (codes "12 7"))) ≡ Ok n)
known_digits_parts n rest is = (is.count, is.few, is.digits, is.left, is.value)

-- the lines of a cross as they are drawn, with a start at its far end
abbrev drawn_lines : Version → List WalkEnd → DrawnLines
drawn_lines of ends = record { version = of; drawing = drawn_cross; ends = ends }

abbrev starting : ℕ → ℕ → WalkEnd
starting number x = record { number = number; is_start = true; spot = spot x 0 }

-- the drawing of drawn lines: as they are in version 1, joined in version 2, with the starts in version 3
pub known_drawing_of_lines : (drawing_of_lines version.One 8 3 (drawn_lines version.One []) ≡ Ok drawn_cross)
    × (drawing_of_lines version.Two 8 3 (drawn_lines version.Two []) ≡ Ok (crossed [] []))
    × (drawing_of_lines version.Three 8 3 (drawn_lines version.Three (starting 6 20 ∷ [])) ≡ Ok (crossed (spot 20 0 ∷ []) []))
    × (drawing_of_lines version.Three 8 3 (drawn_lines version.Three (starting 6 20 ∷ starting 7 15 ∷ []))
    ≡ Err (record { number = 7; kind = kind.NoJunction }))
known_drawing_of_lines = (refl, refl, refl, refl)

-- a text is read as the drawing and as the lines
pub known_lines_read : (lines_read (text (codes "redwork 3") (codes "start 20 0" ∷ []))
    ≡ Ok (record { drawing = crossed (spot 20 0 ∷ []) []; drawn = drawn_lines version.Three (starting 6 20 ∷ []) }))
    × (lines_read (text (codes "redwork 3") (codes "start 15 0" ∷ [])) ≡ Err (record { number = 6; kind = kind.NoJunction }))
known_lines_read = (refl, refl)

-- out of memory is reported at line 0 alone
pub known_out_of_memory : map draw_fault_is_out_of_memory (record { number = 0; kind = kind.Memory }
    ∷ record { number = 1; kind = kind.Memory } ∷ record { number = 0; kind = kind.BadWord } ∷ []) ≡ true ∷ false ∷ false ∷ []
known_out_of_memory = refl

abbrev bad_word : DrawFault
bad_word = record { number = 2; kind = kind.BadWord }

-- a reader returns no other drawing, and no fault that the text doesn't have
pub known_reads : (d : DrawingValue) (lines : DrawnLines) → (ReadsDrawing (Ok d) (Err bad_word) → ⊥)
    × (ReadsDrawing (Err bad_word) (Ok d) → ⊥) × (ReadsLines (Ok lines) (Err bad_word) → ⊥) × (ReadsLines (Err bad_word) (Ok lines) → ⊥)
known_reads d lines = (λ is. wrong is, λ is. right is, λ is. wrong_lines is, λ is. right_lines is)
  where
    wrong : ◌≡◌ {A = Result DrawingValue DrawFault} (Ok d) (Err bad_word) → ⊥
    wrong is = cc

    right : ◌≡◌ {A = Result DrawingValue DrawFault} (Err bad_word) (Ok d) → ⊥
    right is = cc

    wrong_lines : ◌≡◌ {A = Result DrawnLines DrawFault} (Ok lines) (Err bad_word) → ⊥
    wrong_lines is = cc

    right_lines : ◌≡◌ {A = Result DrawnLines DrawFault} (Err bad_word) (Ok lines) → ⊥
    right_lines is = cc

pub known_reads_same : (d other : DrawingValue) (lines more : DrawnLines)
    → (ReadsDrawing (Ok d) (Ok other) → ◌≡◌ {A = Result DrawingValue DrawFault} (Ok d) (Ok other))
    × (ReadsLines (Ok lines) (Ok more) → ◌≡◌ {A = Result DrawnLines DrawFault} (Ok lines) (Ok more))
known_reads_same d other lines more = (λ is. is, λ is. is)

-- a drawing of version 2 is joined, and has neither start nor end
pub known_version2 : (IsDrawingOfVersion version.Two drawn_cross → ⊥) × (IsDrawingOfVersion version.Two both_ends → ⊥)
    × (IsDrawingOfVersion version.Two (crossed [] (spot 10 0 ∷ [])) → ⊥)
known_version2 = (λ is. unjoined is.joined, λ is. starts is.no_ends.starts, λ is. ends is.no_ends.ends)
  where
    unjoined : is_joined drawn_cross ≡ true → ⊥
    unjoined joined = cc

    starts : both_ends.starts ≡ [] → ⊥
    starts none = cc

    ends : spot 10 0 ∷ [] ≡ [] → ⊥
    ends none = cc

-- a drawing of another version may be unjoined, and may have starts
pub known_other_versions : IsDrawingOfVersion version.One drawn_cross × IsDrawingOfVersion version.Three both_ends
known_other_versions = (tt, tt)
