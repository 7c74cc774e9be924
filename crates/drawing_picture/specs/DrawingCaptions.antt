-- The texts of the picture of a drawing: its marks, and below it the counts, the meaning of the
-- marks, of the grid and of the numbers, and a line for the thread of each block.
use Rattle.std.specs.Prelude.{ℕ, pos, ◌+◌, ◌-◌, ◌*◌, ◌/◌, nat_le, List, [], ◌∷◌, ◌++◌, codes, if◌then◌else◌, length, take}
use Rattle.std.specs.Fmt.{decimal}
use Rattle.design_model.specs.declared.point.Point.{Point}
use Rattle.design_picture.specs.declared.block_line.TheConstants.{LINE_HEIGHT}
use Rattle.design_picture.specs.Captions.{block_start}
use Rattle.drawing_picture.specs.declared.drawing_captions.TheConstants.{MAX_SHOWN}
use Rattle.drawing_picture.specs.declared.junction_marks.JunctionMark.{JunctionMark}
use Rattle.drawing_picture.specs.declared.labels.TheConstants.{MAX_LABELS}
use Rattle.drawing_picture.specs.declared.place_marks.PlaceMark.TheVariants as place
use Rattle.drawing_picture.specs.PlaceMarks.{count_of_mark, mark_number, place_text}
use Rattle.line_meetings.specs.declared.meeting.Meeting.{Meeting}
use Rattle.line_sections.specs.declared.spot.Spot.{Spot}
use Rattle.picture_parts.specs.declared.marks.Mark.{Mark}
use Rattle.picture_parts.specs.declared.marks.Mark.TheVariants as mark
use Rattle.picture_parts.specs.Colours.{colour_of_thread}
use Rattle.picture_parts.specs.Marks.{mark_text}
use Rattle.picture_parts.specs.Parts.{ended, filled}
use Rattle.picture_parts.specs.ThreadNames.{name_of_thread}

-- What the picture of a drawing shows, in words.
abbrev pub drawing_words : List ℕ
drawing_words = codes "The lines of a drawing, with a dot at each junction: black where it is even"
    ++ codes ", larger and yellow where it is odd. Places to mend are red."

-- The dot of a junction's mark.
abbrev pub junction_dot : JunctionMark → List ℕ
junction_dot m = if m.is_odd then mark_text mark.Odd m.at else mark_text mark.Even m.at

-- The mark of a given start or end.
abbrev pub spot_mark : Mark → Spot → List ℕ
spot_mark m spot = mark_text m spot.at

-- The numbers of pieces, of junctions and of odd ones, and of lines, as drawn and as they are sewn,
-- cut where they meet.
unfoldable pub counts_text : (pieces junctions odd drawn sewn : ℕ) → List ℕ
counts_text pieces junctions odd drawn sewn =
    filled (ended (codes "<text y='72'>pieces @, junctions @, odd junctions @</text>")
    ++ ended (codes "<text y='100'>lines @ as drawn, @ as sewn</text>"))
    (decimal pieces ∷ decimal junctions ∷ decimal odd ∷ decimal drawn ∷ decimal sewn ∷ [])

-- What the marks of starts and ends mean.
abbrev pub end_keys : List ℕ
end_keys = codes "<path class='start' d='M2,112l18,9l-18,9z'/><text class='small' x='26'"
    ++ (codes " y='127'>start</text><path class='end' d='M80,114h14v14h-14z'/><text class='small' "
    ++ ended (codes "x='102' y='127'>end</text>"))

-- The words beside the marks of junctions.
abbrev pub dot_words : List ℕ
dot_words = codes "<text class='small' x='174' y='127'>junction</text><text class='small'"
    ++ ended (codes " x='286' y='127'>odd junction</text>")

-- The place of a mark in the meaning of the marks.
abbrev pub key_place : (x y : ℕ) → Point
key_place x y = record { x = pos x; y = pos y }

-- What the marks of starts, ends and junctions mean.
unfoldable pub mark_keys : List ℕ
mark_keys = filled end_keys [] ++ (mark_text mark.Even (key_place 160 121)
    ++ (mark_text mark.Odd (key_place 268 121) ++ filled dot_words []))

-- The marks of places that the key explains, in two rows.
abbrev pub place_keys : List ℕ
place_keys = place_text place.LooseEnd (key_place 18 147) (key_place 18 147)
    ++ (place_text place.NearPoint (key_place 218 147) (key_place 218 147)
    ++ (place_text place.Unlisted (key_place 428 147) (key_place 428 147)
    ++ (place_text place.Crossing (key_place 18 181) (key_place 18 181)
    ++ (place_text place.Overlap (key_place 206 181) (key_place 230 181)
    ++ place_text place.Repeat (key_place 412 181) (key_place 444 181)))))

-- The words beside the marks of places, each with its number of places.
unfoldable pub place_words : (loose near unlisted crossing overlap repeat : ℕ) → List ℕ
place_words loose near unlisted crossing overlap repeat =
    filled (codes "<text class='small' x='42' y='153'>loose ends @</text><text class='small'"
    ++ (codes " x='242' y='153'>near points @</text><text class='small' x='456' y='153'>unlisted"
    ++ (ended (codes " meetings @</text>")
    ++ (codes "<text class='small' x='42' y='187'>crossings @</text><text class='small' x='242'"
    ++ (codes " y='187'>overlaps @</text><text class='small' x='456' y='187'>repeated segments "
    ++ ended (codes "@</text>"))))))
    (decimal loose ∷ decimal near ∷ decimal unlisted ∷ decimal crossing ∷ decimal overlap
    ∷ decimal repeat ∷ [])

-- What the marks of places mean, and how many there are of each.
abbrev pub places_text : List Meeting → List ℕ
places_text meetings = place_keys ++ place_words (count_of_mark
    (mark_number place.LooseEnd) meetings)
    (count_of_mark (mark_number place.NearPoint) meetings)
    (count_of_mark (mark_number place.Unlisted) meetings)
    (count_of_mark (mark_number place.Crossing) meetings)
    (count_of_mark (mark_number place.Overlap) meetings)
    (count_of_mark (mark_number place.Repeat) meetings)

-- What has numbers, by the numbers of pieces and of lines.
abbrev pub labels_words : (pieces lines : ℕ) → List ℕ
labels_words pieces lines = if nat_le lines MAX_LABELS
    then codes "Blue: the numbers of lines, and of pieces P1, P2 and so on, as look has them."
    else (if nat_le pieces MAX_LABELS
    then codes "Blue: the numbers of pieces, as look has them. More than 64 lines have none."
    else codes "Blue: the first 64 pieces, as look has them. More than 64 lines have none.")

-- The spacing of the grid and what has numbers, and the group of the legend.
unfoldable pub grid_words : ℕ → List ℕ → List ℕ
grid_words step labels = filled
    (codes "<text class='small' y='215'>Grid of @ mm, with coordinates in"
    ++ (ended (codes " tenths of a millimetre.</text>")
    ++ (ended (codes "<text class='small' y='241'>@</text>")
    ++ ended (codes "<g transform='translate(0,248)'>"))))
    (decimal (step / 10) ∷ labels ∷ [])

-- The end of the line of a thread, with its name.
unfoldable pub thread_end : List ℕ → List ℕ
thread_end name = filled (ended (codes "</text><text class='small' x='165'>@</text></g>"))
    (name ∷ [])

-- The line of the thread of a block: its colour, its number and its name in the palette.
abbrev pub thread_line : ℕ → ℕ → List ℕ
thread_line block thread =
    block_start block (colour_of_thread thread) thread ++ thread_end (name_of_thread thread)

-- The lines of the threads of blocks from the given number on.
abbrev pub thread_lines : ℕ → List ℕ → List ℕ
thread_lines block [] = []
thread_lines block (thread ∷ rest) = thread_line block thread ++ thread_lines (block + 1) rest

-- How many blocks of so many have a line in the legend: all, or the first ones where two more or
-- further ones had none.
abbrev pub shown_blocks : ℕ → ℕ
shown_blocks blocks = if nat_le blocks (MAX_SHOWN + 1) then blocks else MAX_SHOWN

-- The line after those of some threads, where there are more.
unfoldable pub more_blocks : (height more : ℕ) → List ℕ
more_blocks height more = filled (ended (codes "<text x='52' y='@'>and @ more blocks</text>"))
    (decimal height ∷ decimal more ∷ [])

-- What comes after the lines of so many blocks' threads.
abbrev pub after_threads : ℕ → List ℕ
after_threads blocks = if nat_le blocks (MAX_SHOWN + 1) then []
    else more_blocks (LINE_HEIGHT * (MAX_SHOWN + 1)) (blocks - MAX_SHOWN)

-- The legend: a line for each block, or for the first ones, and how many more there are.
abbrev pub legend_of : List ℕ → List ℕ
legend_of threads = thread_lines 1 (take (shown_blocks (length threads)) threads)
    ++ after_threads (length threads)
