-- The drafts after the lines of a canonical text.
use Rattle.std.proofs.Common.{◌≡◌, ◌≢◌, ℕ, ◌+◌, ◌<◌, ◌≤◌, Bool, true, false, nat_le, unsigned_abs, List, [], ◌∷◌, ◌++◌, Result, Ok, length, codes, All, refl, append_assoc, arith}
use Rattle.drawing_text.proofs.Names.{and_from, and_parts, nat_tests, All-head, All-tail, decimal, signed_decimal, list_all, Point, IsLabel, IsNeedlePoint, DrawingValue, IsLine, and_then, all_in_needle_range, is_last_empty, point_count, step_count, with_new_block, with_new_line, steps_of_line, DrawingDraft, DrawFault, WalkEnd, at_line, Version, points_text, default_drawing, empty_draft, draft_after_words, parsed_points, words_by_line, within_parts, signed_read, list_all-from_AllPass, is_ascii_graphic, IsPrintable, is_point_within, none_repeats, decimal_read}
use Rattle.drawing_text.proofs.PrintedNumbers.{signed_word}
use Rattle.drawing_text.proofs.PrintedWords.{AreWords, IsWord, is_printed_byte, line_read, tail_of}

-- The result for a draft and the text lines after it, from line `number` on: what `close` makes of the draft at the end.
abbrev pub after_text : {A : Type 0} → (ℕ → DrawingDraft → Result A DrawFault) → Version → ℕ → DrawingDraft → List (List (List ℕ))
    → Result A DrawFault
after_text close version number draft [] = close number draft
after_text close version number draft (words ∷ rest) =
    and_then (at_line number draft.opened (draft_after_words version number draft words)) (λ next.
    after_text close version (number + 1) next rest)

-- the next line is read, and then those after it
pub line_judged : {A : Type 0} (close : ℕ → DrawingDraft → Result A DrawFault) (version : Version) (number : ℕ) (draft next : DrawingDraft)
    (word : List ℕ) (words : List (List ℕ)) (rest : List ℕ) → IsWord word → AreWords words
    → draft_after_words version number draft (word ∷ words) ≡ Ok next
    → after_text close version number draft (words_by_line (word ++ (tail_of words ++ rest)))
    ≡ after_text close version (number + 1) next (words_by_line rest)
line_judged close version number draft next word words rest is are says = grind (arith, nat_tests, line_read word words rest is are)

-- a draft whose step was given
abbrev pub draft_of : List WalkEnd → Bool → ℕ → DrawingValue → DrawingDraft
draft_of ends named opened d = record { drawing = d; named = named; stepped = true; opened = opened; ends = ends }

-- the words of the text
pub is_name : IsWord (codes "name")
is_name = record { filled = refl; inner = refl }

pub is_step : IsWord (codes "step")
is_step = record { filled = refl; inner = refl }

pub is_color : IsWord (codes "color")
is_color = record { filled = refl; inner = refl }

pub is_line : IsWord (codes "line")
is_line = record { filled = refl; inner = refl }

-- the coordinates of points, as words
abbrev pub coordinates : List Point → List (List ℕ)
coordinates [] = []
coordinates (p ∷ rest) = signed_decimal p.x ∷ signed_decimal p.y ∷ coordinates rest

pub points_spelled : (points : List Point) → points_text points ≡ tail_of (coordinates points)
points_spelled [] = refl
points_spelled (p ∷ rest) =
    grind (arith, nat_tests, append_assoc (32 ∷ signed_decimal p.x) (32 ∷ signed_decimal p.y) (points_text rest), points_spelled rest)

pub coordinates_are : (points : List Point) → All IsNeedlePoint points → AreWords (coordinates points)
coordinates_are [] in_range = tt
coordinates_are (p ∷ rest) in_range =
    let within = within_parts 30000 p (All-head IsNeedlePoint p rest in_range) in (
      signed_word p.x (omega (arith, within.0)),
      (signed_word p.y (omega (arith, within.1)), coordinates_are rest (All-tail IsNeedlePoint p rest in_range)),
    )

-- they are read as the points
pub points_read : (points : List Point) → All IsNeedlePoint points → parsed_points (coordinates points) ≡ Ok points
points_read [] in_range = refl
points_read (p ∷ rest) in_range =
    let within = within_parts 30000 p (All-head IsNeedlePoint p rest in_range) in
    let x : nat_le (unsigned_abs p.x) 30000 ≡ true = grind (arith, nat_tests, within.0) in
    let y : nat_le (unsigned_abs p.y) 30000 ≡ true = grind (arith, nat_tests, within.1) in
    rw (
      signed_read p.x (omega (arith, within.0)),
      x,
      signed_read p.y (omega (arith, within.1)),
      y,
      points_read rest (All-tail IsNeedlePoint p rest in_range),
    ) refl

-- points at which needles may go down are found in range
in_range_found : (points : List Point) → All IsNeedlePoint points → all_in_needle_range points ≡ true
in_range_found points in_range = list_all-from_AllPass (is_point_within 30000) points in_range

-- there is room for a line
pub record HasRoom (d : DrawingValue) (points : List Point) : Type 0 where
  pub block : 1 ≤ length d.threads
  pub lines : length d.lines < 1024
  pub points_to : point_count d.lines + length points ≤ 65536
  pub steps_to : step_count d.step d.lines + steps_of_line d.step points ≤ 200000

-- the line of a text line is added to the drawing
pub line_says : (version : Version) (number opened : ℕ) (named : Bool) (ends : List WalkEnd) (d : DrawingValue) (points : List Point)
    → IsLine points → HasRoom d points
    → draft_after_words version number (draft_of ends named opened d) (codes "line" ∷ coordinates points)
    ≡ Ok (draft_of ends named opened (with_new_line d points))
line_says version number opened named ends d points able room =
    grind (arith, nat_tests, points_read points able.in_range, in_range_found points able.in_range, none_repeats points able.moving)

-- the block of a text is added to the drawing
pub color_says : (version : Version) (number opened : ℕ) (named : Bool) (ends : List WalkEnd) (d : DrawingValue) (thread : ℕ) → thread < 256
    → is_last_empty d ≡ false → length d.threads < 255
    → draft_after_words version number (draft_of ends named opened d) (codes "color" ∷ decimal thread ∷ [])
    ≡ Ok (draft_of ends named number (with_new_block d thread))
color_says version number opened named ends d thread fits filled room = grind (arith, nat_tests, decimal_read thread (omega (arith, fits)))

-- a label is a word that may be one
label_inner : (label : List ℕ) → list_all is_ascii_graphic label ≡ true → list_all is_printed_byte label ≡ true
label_inner [] graphic = refl
label_inner (b ∷ label) graphic =
    let both = and_parts (is_ascii_graphic b) (list_all is_ascii_graphic label) graphic in
    and_from (is_printed_byte b) (list_all is_printed_byte label) (grind (arith, nat_tests, both.0)) (label_inner label both.1)

label_graphic : (label : List ℕ) → All IsPrintable label → All (λ byte. byte ≢ 32) label → list_all is_ascii_graphic label ≡ true
label_graphic [] printable one_word = refl
label_graphic (b ∷ label) printable one_word =
    let here : IsPrintable b = All-head IsPrintable b label printable in
    let no_space : b ≢ 32 = All-head (λ (byte : ℕ). byte ≢ 32) b label one_word in
    and_from (is_ascii_graphic b) (list_all is_ascii_graphic label)
    (grind (arith, nat_tests, here.from_space, here.to_tilde, no_space))
    (label_graphic label (All-tail IsPrintable b label printable) (All-tail (λ (byte : ℕ). byte ≢ 32) b label one_word))

-- a label that isn't empty is a word
pub label_word : (label : List ℕ) → IsLabel label → All (λ byte. byte ≢ 32) label → label ≢ [] → IsWord label
label_word [] is one_word some = absurd (some refl)
label_word (b ∷ label) is one_word some = record {
  filled = refl;
  inner = label_inner (b ∷ label) (label_graphic (b ∷ label) is.printable one_word);
}

-- and it is set
pub name_says : (version : Version) (label : List ℕ) → IsLabel label → All (λ byte. byte ≢ 32) label
    → draft_after_words version 2 empty_draft (codes "name" ∷ label ∷ [])
    ≡ Ok (record empty_draft { named = true; drawing = record default_drawing { label = label } })
name_says version label is one_word = grind (arith, nat_tests, label_graphic label is.printable one_word)

-- a step is set
pub step_says : (version : Version) (number : ℕ) (named : Bool) (label : List ℕ) (step : ℕ) → 1 ≤ step → step ≤ 2047
    → draft_after_words version number (record empty_draft { named = named; drawing = record default_drawing { label = label } })
    (codes "step" ∷ decimal step ∷ []) ≡ Ok (draft_of [] named 0 (record default_drawing { label = label; step = step }))
step_says version number named label step from to = grind (arith, nat_tests, decimal_read step (omega (arith, to)))
