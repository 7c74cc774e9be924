-- Worked values of the grid, of marks of places, of numbers and of the key, by hand.
use Rattle.std.proofs.Common.{◌≡◌, ◌+◌, ℕ, pos, negsuc, true, false, List, [], ◌∷◌, ◌++◌, codes, length, map, refl, replicate}
use Rattle.std.specs.Fmt.{digits}
use Rattle.drawing_picture.proofs.BandFacts.{at, point}
use Rattle.drawing_picture.specs.declared.grid.Grid.{Grid}
use Rattle.drawing_picture.specs.declared.label_order.Side.TheVariants as side
use Rattle.drawing_picture.specs.declared.labels.HalfPoint.{HalfPoint}
use Rattle.drawing_picture.specs.declared.labels.Label.{Label}
use Rattle.drawing_picture.specs.declared.place_marks.PlaceMark.TheVariants as place
use Rattle.drawing_picture.specs.DrawingCaptions.{after_threads, grid_words, labels_words, more_blocks, shown_blocks}
use Rattle.drawing_picture.specs.Grids.{coordinate_text, grid_around_extent, grid_step, line_count_of, rounded_up_to}
use Rattle.drawing_picture.specs.LabelOrders.{label_key, label_row, labels_of_side}
use Rattle.drawing_picture.specs.Labels.{labels_of_all, middle_of_line}
use Rattle.drawing_picture.specs.PlaceMarks.{count_of_mark, mark_number, mark_of_kind, place_shape, place_text, stretch_shape}
use Rattle.line_meetings.specs.declared.meeting.Meeting.{Meeting}
use Rattle.line_meetings.specs.declared.meeting.MeetingKind.{MeetingKind}
use Rattle.line_meetings.specs.declared.meeting.MeetingKind.TheVariants as meeting
use Rattle.picture_parts.specs.Parts.{filled}

-- The step is 10 mm up to 340 mm of width and height together, then 50, 100 and 500 mm.
pub known_steps : map grid_step (0 ∷ 3400 ∷ 3401 ∷ 17000 ∷ 17001 ∷ 34000 ∷ 34001 ∷ 120000 ∷ [])
    ≡ 100 ∷ 100 ∷ 500 ∷ 500 ∷ 1000 ∷ 1000 ∷ 5000 ∷ 5000 ∷ []
known_steps = refl

-- The edges enclose the points, on either side of the origin: from -0.5 to 9.5 mm across, and from 0 to 11 mm down.
pub known_grid : grid_around_extent (record { min = point (negsuc 4) (pos 0); max = point (pos 95) (pos 110) })
    ≡ record { step = 100; left = 29900; right = 30100; top = 30000; bottom = 30200 }
known_grid = refl

-- A multiple of the step stays, and what is above it goes up to the next one.
pub known_rounded : map (rounded_up_to 100) (200 ∷ 201 ∷ 299 ∷ 300 ∷ []) ≡ 200 ∷ 300 ∷ 300 ∷ 300 ∷ []
known_rounded = refl

pub known_line_counts : (line_count_of 100 29900 30100 ≡ 3) × (line_count_of 500 30000 30000 ≡ 1)
known_line_counts = (refl, refl)

pub known_coordinates : map coordinate_text (29900 ∷ 30000 ∷ 30500 ∷ 0 ∷ [])
    ≡ codes "-100" ∷ codes "0" ∷ codes "500" ∷ codes "-30000" ∷ []
unfolding digits
known_coordinates = refl

-- A point that nearly meets a line is a loose end where it is an end of its line.
pub known_marks_of_kinds : (mark_of_kind meeting.ClosePoints true ≡ place.LooseEnd)
    × (mark_of_kind meeting.ClosePoints false ≡ place.NearPoint)
    × (mark_of_kind meeting.BesideSegment true ≡ place.LooseEnd) × (mark_of_kind meeting.BesideSegment false ≡ place.NearPoint)
    × (mark_of_kind meeting.OnSegment true ≡ place.Unlisted) × (mark_of_kind meeting.Crossing false ≡ place.Crossing)
    × (mark_of_kind meeting.Overlap false ≡ place.Overlap) × (mark_of_kind meeting.Repeat false ≡ place.Repeat)
known_marks_of_kinds = (refl, refl, refl, refl, refl, refl, refl, refl)

abbrev met : MeetingKind → Meeting
met kind = record {
  kind = kind;
  block = 0;
  line = 0;
  index = 0;
  is_end = false;
  other = 1;
  other_index = 0;
  from = at 0;
  to = at 1;
  distance = 0;
}

-- The marks are numbered in the order of the key.
pub known_numbers : map mark_number (place.LooseEnd ∷ place.NearPoint ∷ place.Unlisted ∷ place.Crossing ∷ place.Overlap ∷ place.Repeat ∷ [])
    ≡ 0 ∷ 1 ∷ 2 ∷ 3 ∷ 4 ∷ 5 ∷ []
known_numbers = refl

pub known_mark_counts : map (λ (n : ℕ). count_of_mark n (met meeting.Crossing ∷ met meeting.Repeat ∷ met meeting.Crossing
    ∷ met meeting.BesideSegment ∷ met meeting.Overlap ∷ met meeting.OnSegment ∷ met meeting.OnSegment ∷ met meeting.OnSegment ∷ []))
    (map mark_number (place.LooseEnd ∷ place.NearPoint ∷ place.Unlisted ∷ place.Crossing ∷ place.Overlap ∷ place.Repeat ∷ []))
    ≡ 0 ∷ 1 ∷ 3 ∷ 2 ∷ 1 ∷ 1 ∷ []
known_mark_counts = refl

-- Rings, squares and crosses have their middle at the place: a square of 2.6 mm, one on its corner of 3.6 mm, a cross of 2.6 mm.
pub known_place_shapes :
    (place_text place.LooseEnd (at 3) (at 9)
    ≡ codes "<path fill='none' stroke='#d00' stroke-width='3' d='M3,0m-15,0a15,15,0,1,0,30,0a15,15,0,1,0,-30,0'/>" ++ 10 ∷ [])
    × (place_text place.NearPoint (at 3) (at 9)
    ≡ codes "<path fill='none' stroke='#d00' stroke-width='3' d='M3,0m-13,-13h26v26h-26z'/>" ++ 10 ∷ [])
    × (place_text place.Unlisted (at 3) (at 9)
    ≡ codes "<path fill='none' stroke='#d00' stroke-width='3' d='M3,0m-18,0l18,-18l18,18l-18,18z'/>" ++ 10 ∷ [])
    × (place_text place.Crossing (at 3) (at 9)
    ≡ codes "<path fill='none' stroke='#d00' stroke-width='3' d='M3,0m-13,-13l26,26m-26,0l26,-26'/>" ++ 10 ∷ [])
unfolding digits filled place_shape
known_place_shapes = (refl, refl, refl, refl)

-- Stretches go from where what is shared begins to where it ends.
pub known_stretches :
    (place_text place.Overlap (at 3) (at 9)
    ≡ codes "<path fill='none' stroke='#d00' opacity='.5' stroke-width='16' d='M3,0L9,0'/>" ++ 10 ∷ [])
    × (place_text place.Repeat (at 3) (at 9)
    ≡ codes "<path fill='none' stroke='#d00' opacity='.5' stroke-width='10' stroke-dasharray='2 16' d='M3,0L9,0'/>" ++ 10 ∷ [])
unfolding digits filled stretch_shape
known_stretches = (refl, refl)

abbrev half : ℕ → HalfPoint
half x = record { x = 60000 + x; y = 60000 }

-- The middle of the only segment, of the second of two, of the second of three, and a single point.
pub known_middles : map middle_of_line ((at 0 ∷ at 7 ∷ []) ∷ (at 0 ∷ at 4 ∷ at 10 ∷ []) ∷ (at 0 ∷ at 1 ∷ at 5 ∷ at 50 ∷ []) ∷
    (at 9 ∷ []) ∷ [])
    ≡ half 7 ∷ half 14 ∷ half 6 ∷ half 18 ∷ []
known_middles = refl

-- 64 lines have labels, and 65 don't.
pub known_limits : map (λ (n : ℕ). length (labels_of_all [] (replicate n (record { block = 0; points = at 0 ∷ at 4 ∷ [] })))) (64 ∷ 65 ∷ [])
    ≡ 64 ∷ 0 ∷ []
known_limits = refl

abbrev label : ℕ → HalfPoint → Label
label number place = record { is_piece = false; number = number; at = place }

-- The numbers of labels in order.
abbrev numbers : List Label → List ℕ
numbers labels = map (λ (l : Label). l.number) labels

abbrev labels : List Label
labels = label 1 (half 40) ∷ label 2 (half 160) ∷ label 3 (half 20) ∷ label 4 (half 100) ∷ label 5 (half 99) ∷ []

abbrev grid : Grid
grid = record { step = 100; left = 30000; right = 30100; top = 30000; bottom = 30100 }

-- On the left the lesser x comes first in a row, on the right the greater one. What is at the middle, 5 mm, is right of it.
pub known_orders : (numbers (labels_of_side side.Left grid labels) ≡ 3 ∷ 1 ∷ 5 ∷ [])
    × (numbers (labels_of_side side.Right grid labels) ≡ 2 ∷ 4 ∷ [])
known_orders = (refl, refl)

-- A key counts rows of 131072 half steps, and x from the side.
pub known_keys : map (λ s. label_key s (label 1 (record { x = 5; y = 3 }))) (side.Left ∷ side.Right ∷ []) ≡ 393221 ∷ 524283 ∷ []
known_keys = refl

-- A row is at what it names, unless that is taken or others need it.
pub known_rows : (label_row 1000 0 500 3 ≡ 500) × (label_row 1000 600 500 3 ≡ 600) × (label_row 1000 0 900 3 ≡ 856)
    × (label_row 100 40 90 3 ≡ 40)
known_rows = (refl, refl, refl, refl)

-- 25 blocks are listed, and of 26 the first 24.
pub known_shown : map shown_blocks (1 ∷ 25 ∷ 26 ∷ 255 ∷ []) ≡ 1 ∷ 25 ∷ 24 ∷ 24 ∷ []
known_shown = refl

pub known_more : (after_threads 25 ≡ []) × (after_threads 26 ≡ codes "<text x='52' y='700'>and 2 more blocks</text>" ++ 10 ∷ [])
unfolding digits filled more_blocks
known_more = (refl, refl)

pub known_labels_words :
    (labels_words 3 64 ≡ codes "Blue: the numbers of lines, and of pieces P1, P2 and so on, as look has them.")
    × (labels_words 64 65 ≡ codes "Blue: the numbers of pieces, as look has them. More than 64 lines have none.")
    × (labels_words 65 65 ≡ codes "Blue: the first 64 pieces, as look has them. More than 64 lines have none.")
known_labels_words = (refl, refl, refl)

pub known_grid_words : grid_words 500 (codes "W")
    ≡ codes "<text class='small' y='215'>Grid of 50 mm, with coordinates in tenths of a millimetre.</text>"
    ++ (10 ∷ codes "<text class='small' y='241'>W</text>" ++ (10 ∷ codes "<g transform='translate(0,248)'>" ++ 10 ∷ []))
unfolding digits filled grid_words
known_grid_words = refl
