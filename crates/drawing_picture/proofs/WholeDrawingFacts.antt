-- The picture of a drawing, entire and by hand, with a start, an end, odd junctions, a loose end and a crossing. Points are in tenths
-- of a millimetre.
use Rattle.std.proofs.Common.{◌≡◌, ℕ, List, pos, [], ◌∷◌, ◌++◌, Some, codes, map, refl}
use Rattle.std.specs.Fmt.{digits}
use Rattle.drawing_picture.proofs.Names.{DrawingValue, LineValue, Point, piece_graph}
use Rattle.design_picture.specs.Captions.{block_start, group_end}
use Rattle.design_picture.specs.Layouts.{below_head, below_start, title_text, top_text}
use Rattle.drawing_picture.specs.DrawingCaptions.{counts_text, grid_words, mark_keys, more_blocks, place_words, thread_end}
use Rattle.drawing_picture.specs.DrawingPictures.{drawing_below, drawing_marks, drawing_with, picture_of_pieces}
use Rattle.drawing_picture.specs.Grids.{column_start, coordinate_end, grid_start, row_start}
use Rattle.drawing_picture.specs.LabelTexts.{labels_start, left_label, right_label}
use Rattle.drawing_picture.specs.PlaceMarks.{place_shape, stretch_shape}
use Rattle.line_meetings.specs.Telling.{told}
use Rattle.picture_parts.specs.Colours.{colour_of_thread}
use Rattle.picture_parts.specs.Marks.{mark_text, shape_at}
use Rattle.picture_parts.specs.Parts.{around, filled}
use Rattle.picture_parts.specs.Paths.{coloured_path, move_text, path_end, straight_text}
use Rattle.picture_parts.specs.Sheets.{foot_text, head_text, style_text}
use Rattle.picture_parts.specs.ThreadNames.{name_of_thread}

abbrev at : ℕ → ℕ → Point
at x y = record { x = pos x; y = pos y }

-- A line of a block through points.
abbrev line : ℕ → List Point → LineValue
line block points = record { block = block; points = points }

-- A T, a line that begins 0.2 mm below its bar and one that begins 0.3 mm below it, a line that crosses the first of them, and in
-- another block an outline.
abbrev drawn : List LineValue
drawn = line 0 (at 0 0 ∷ at 50 0 ∷ at 100 0 ∷ []) ∷ line 0 (at 50 0 ∷ at 50 50 ∷ []) ∷ line 0 (at 75 2 ∷ at 75 30 ∷ [])
    ∷ line 0 (at 25 3 ∷ at 25 30 ∷ []) ∷ line 0 (at 65 20 ∷ at 85 20 ∷ [])
    ∷ line 1 (at 0 60 ∷ at 0 80 ∷ at 20 80 ∷ at 0 60 ∷ []) ∷ []

-- The lines as they are sewn: the bar is cut where it meets the stem. It is sewn from its left end to its right one.
abbrev drawing : DrawingValue
drawing = record {
  label = codes "T";
  step = 25;
  threads = 10 ∷ 11 ∷ [];
  lines = line 0 (at 0 0 ∷ at 50 0 ∷ []) ∷ line 0 (at 50 0 ∷ at 100 0 ∷ []) ∷ line 0 (at 50 0 ∷ at 50 50 ∷ [])
      ∷ line 0 (at 75 2 ∷ at 75 30 ∷ []) ∷ line 0 (at 25 3 ∷ at 25 30 ∷ []) ∷ line 0 (at 65 20 ∷ at 85 20 ∷ [])
      ∷ line 1 (at 0 60 ∷ at 0 80 ∷ at 20 80 ∷ at 0 60 ∷ []) ∷ [];
  starts = record { block = 0; at = at 0 0 } ∷ [];
  ends = record { block = 0; at = at 100 0 } ∷ [];
}

-- The lines of its five pieces.
abbrev pieces : List (List ℕ)
pieces = (0 ∷ 1 ∷ 2 ∷ []) ∷ (3 ∷ []) ∷ (4 ∷ []) ∷ (5 ∷ []) ∷ (6 ∷ []) ∷ []

-- The drawing has 10 mm by 8 mm. Six numbers on the right need 14.4 mm, and the texts below a sheet of 56 mm, which has 15 mm on both
-- sides, 6 mm above and below, and 19 mm and six lines of 2.8 mm for the texts. It is to fit 4.3 cm by 10 cm.
abbrev top : List ℕ
top = codes "<svg xmlns='http://www.w3.org/2000/svg' width='43.0mm' height='100.0mm' viewBox='0,0,860,622'>"
    ++ (10 ∷ codes "<path fill='#d9d1be' d='M0,0h860v622h-860z'/>" ++ (10 ∷ style_text
    ++ (codes "<title>Embroidery T</title>" ++ (10 ∷ codes "<desc>The lines of a drawing, with a dot at each junction: "
    ++ (codes "black where it is even, larger and yellow where it is odd. Places to mend are red.</desc>"
    ++ (10 ∷ codes "<g transform='translate(150,60)'>" ++ 10 ∷ []))))))

-- Two columns and two rows, 10 mm apart, whose coordinates count from 30,000 to the left of the origin and above it.
abbrev grid : List ℕ
grid = codes "<g transform='translate(-30000,-30000)' fill='none' stroke='#a79e88' stroke-width='1'>"
    ++ (10 ∷ codes "<path d='M30000,30000V30100'/><text class='small' style='fill:#6b6454' text-anchor='middle' x='30000' y='30000' dy='-2"
    ++ (codes "0'>0</text>"
    ++ (10 ∷ codes "<path d='M30100,30000V30100'/><text class='small' style='fill:#6b6454' text-anchor='middle' x='30100' y='30000' dy='-2"
    ++ (codes "0'>100</text>"
    ++ (10 ∷ codes "<path d='M30000,30000H30100'/><text class='small' style='fill:#6b6454' x='30000' y='30000' dx='-140' dy='6'>0</text>"
    ++ (10 ∷ codes "<path d='M30000,30100H30100'/><text class='small' style='fill:#6b6454' x='30000' y='30100' dx='-140' dy='6'>100</text>"
    ++ (10 ∷ codes "</g>" ++ 10 ∷ [])))))))

-- The lines of the first block in the colour of thread 10, that of the second in the colour of thread 11.
abbrev paths : List ℕ
paths = codes "<path class='thread' stroke='#9ed67d' d='"
    ++ (10 ∷ codes "M0,0L50,0'/>"
    ++ (10 ∷ codes "<path class='thread' stroke='#9ed67d' d='"
    ++ (10 ∷ codes "M50,0L100,0'/>"
    ++ (10 ∷ codes "<path class='thread' stroke='#9ed67d' d='"
    ++ (10 ∷ codes "M50,0L50,50'/>"
    ++ (10 ∷ codes "<path class='thread' stroke='#9ed67d' d='"
    ++ (10 ∷ codes "M75,2L75,30'/>"
    ++ (10 ∷ codes "<path class='thread' stroke='#9ed67d' d='"
    ++ (10 ∷ codes "M25,3L25,30'/>"
    ++ (10 ∷ codes "<path class='thread' stroke='#9ed67d' d='"
    ++ (10 ∷ codes "M65,20L85,20'/>"
    ++ (10 ∷ codes "<path class='thread' stroke='#e8a900' d='"
    ++ (10 ∷ codes "M0,60L0,80L20,80L0,60'/>" ++ 10 ∷ [])))))))))))))

-- Numbers left of the middle, 5 mm, stand left, from the top down; the others stand right. A number of a line leads to the middle of
-- the segment in its middle, one of a piece to its first junction. Rows are 2.4 mm apart. Of two in one row the nearer one comes first.
abbrev labels : List ℕ
labels = codes "<g transform='translate(-30000,-30000) scale(.5)' fill='none' stroke='#1d3bd1' stroke-width='2'>"
    ++ (10 ∷ codes "<path d='M60000,60000m-68,0h28L60000,60000'/><path stroke-width='10' d='M60000,60000h0'/><text class='small' style='fi"
    ++ (codes "ll:#1d3bd1;font-size:40px;stroke-width:10' text-anchor='end' x='60000' y='60000' dx='-76' dy='14'>P1</text>"
    ++ (10 ∷ codes "<path d='M60000,60048m-68,0h28L60050,60006'/><path stroke-width='10' d='M60050,60006h0'/><text class='small' style='fi"
    ++ (codes "ll:#1d3bd1;font-size:40px;stroke-width:10' text-anchor='end' x='60000' y='60048' dx='-76' dy='14'>P3</text>"
    ++ (10 ∷ codes "<path d='M60000,60096m-68,0h28L60050,60033'/><path stroke-width='10' d='M60050,60033h0'/><text class='small' style='fi"
    ++ (codes "ll:#1d3bd1;font-size:40px;stroke-width:10' text-anchor='end' x='60000' y='60096' dx='-76' dy='14'>4</text>"
    ++ (10 ∷ codes "<path d='M60000,60144m-68,0h28L60000,60120'/><path stroke-width='10' d='M60000,60120h0'/><text class='small' style='fi"
    ++ (codes "ll:#1d3bd1;font-size:40px;stroke-width:10' text-anchor='end' x='60000' y='60144' dx='-76' dy='14'>P5</text>"
    ++ (10 ∷ codes "<path d='M60000,60192m-68,0h28L60020,60160'/><path stroke-width='10' d='M60020,60160h0'/><text class='small' style='fi"
    ++ (codes "ll:#1d3bd1;font-size:40px;stroke-width:10' text-anchor='end' x='60000' y='60192' dx='-76' dy='14'>6</text>"
    ++ (10 ∷ codes "<path d='M60200,60000m68,0h-28L60150,60000'/><path stroke-width='10' d='M60150,60000h0'/><text class='small' style='fi"
    ++ (codes "ll:#1d3bd1;font-size:40px;stroke-width:10' x='60200' y='60000' dx='76' dy='14'>1</text>"
    ++ (10 ∷ codes "<path d='M60200,60048m68,0h-28L60150,60004'/><path stroke-width='10' d='M60150,60004h0'/><text class='small' style='fi"
    ++ (codes "ll:#1d3bd1;font-size:40px;stroke-width:10' x='60200' y='60048' dx='76' dy='14'>P2</text>"
    ++ (10 ∷ codes "<path d='M60200,60096m68,0h-28L60150,60032'/><path stroke-width='10' d='M60150,60032h0'/><text class='small' style='fi"
    ++ (codes "ll:#1d3bd1;font-size:40px;stroke-width:10' x='60200' y='60096' dx='76' dy='14'>3</text>"
    ++ (10 ∷ codes "<path d='M60200,60144m68,0h-28L60150,60040'/><path stroke-width='10' d='M60150,60040h0'/><text class='small' style='fi"
    ++ (codes "ll:#1d3bd1;font-size:40px;stroke-width:10' x='60200' y='60144' dx='76' dy='14'>5</text>"
    ++ (10 ∷ codes "<path d='M60200,60192m68,0h-28L60130,60040'/><path stroke-width='10' d='M60130,60040h0'/><text class='small' style='fi"
    ++ (codes "ll:#1d3bd1;font-size:40px;stroke-width:10' x='60200' y='60192' dx='76' dy='14'>P4</text>"
    ++ (10 ∷ codes "<path d='M60200,60240m68,0h-28L60100,60050'/><path stroke-width='10' d='M60100,60050h0'/><text class='small' style='fi"
    ++ (codes "ll:#1d3bd1;font-size:40px;stroke-width:10' x='60200' y='60240' dx='76' dy='14'>2</text>"
    ++ (10 ∷ codes "</g>" ++ 10 ∷ [])))))))))))))))))))))))

-- The start and the end are even by the way back from one to the other. Both ends of the stem and of the three lines are odd, and the
-- outline's one junction is even. The triangle is at the left end of the bar, the square at the right one, a ring at the loose end, and
-- a cross where two lines cross.
abbrev marks : List ℕ
marks = codes "<path fill='#222' d='M0,0m-5,0a5,5,0,1,0,10,0a5,5,0,1,0,-10,0'/>"
    ++ (10 ∷ codes "<path fill='#ffd400' stroke='#222' stroke-width='2' d='M50,0m-9,0a9,9,0,1,0,18,0a9,9,0,1,0,-18,0'/>"
    ++ (10 ∷ codes "<path fill='#222' d='M100,0m-5,0a5,5,0,1,0,10,0a5,5,0,1,0,-10,0'/>"
    ++ (10 ∷ codes "<path fill='#ffd400' stroke='#222' stroke-width='2' d='M50,50m-9,0a9,9,0,1,0,18,0a9,9,0,1,0,-18,0'/>"
    ++ (10 ∷ codes "<path fill='#ffd400' stroke='#222' stroke-width='2' d='M75,2m-9,0a9,9,0,1,0,18,0a9,9,0,1,0,-18,0'/>"
    ++ (10 ∷ codes "<path fill='#ffd400' stroke='#222' stroke-width='2' d='M75,30m-9,0a9,9,0,1,0,18,0a9,9,0,1,0,-18,0'/>"
    ++ (10 ∷ codes "<path fill='#ffd400' stroke='#222' stroke-width='2' d='M25,3m-9,0a9,9,0,1,0,18,0a9,9,0,1,0,-18,0'/>"
    ++ (10 ∷ codes "<path fill='#ffd400' stroke='#222' stroke-width='2' d='M25,30m-9,0a9,9,0,1,0,18,0a9,9,0,1,0,-18,0'/>"
    ++ (10 ∷ codes "<path fill='#ffd400' stroke='#222' stroke-width='2' d='M65,20m-9,0a9,9,0,1,0,18,0a9,9,0,1,0,-18,0'/>"
    ++ (10 ∷ codes "<path fill='#ffd400' stroke='#222' stroke-width='2' d='M85,20m-9,0a9,9,0,1,0,18,0a9,9,0,1,0,-18,0'/>"
    ++ (10 ∷ codes "<path fill='#222' d='M0,60m-5,0a5,5,0,1,0,10,0a5,5,0,1,0,-10,0'/>"
    ++ (10 ∷ codes "<path class='start' d='M0,0m-23,-9l18,9l-18,9z'/>"
    ++ (10 ∷ codes "<path class='end' d='M100,0m6,-7h14v14h-14z'/>"
    ++ (10 ∷ codes "<path fill='none' stroke='#d00' stroke-width='3' d='M75,2m-15,0a15,15,0,1,0,30,0a15,15,0,1,0,-30,0'/>"
    ++ (10 ∷ codes "<path fill='none' stroke='#d00' stroke-width='3' d='M75,20m-13,-13l26,26m-26,0l26,-26'/>" ++ 10 ∷ []))))))))))))))

-- The bar of 10 mm, below the lower left corner, the label and the size, and the counts.
abbrev below : List ℕ
below = codes "<g transform='translate(0,144) translate(0,60)'>"
    ++ (10 ∷ codes "<path class='line' d='M0,-6v12m0,-6h100m0,-6v12'/><text x='112' y='7'>10 mm</text>"
    ++ (10 ∷ codes "<text y='44'>T 10.0 x 8.0 mm</text>" ++ (10 ∷ codes "<text x='220' y='7'>scale 1 : 2.0</text>"
    ++ (10 ∷ codes "<text y='72'>pieces 5, junctions 11, odd junctions 8</text>"
    ++ (10 ∷ codes "<text y='100'>lines 6 as drawn, 7 as sewn</text>" ++ 10 ∷ [])))))

-- The triangle is a start and the square an end, the black dot a junction, the yellow one odd. In the rows below are a ring, a square, a
-- square on its corner, a cross, a stretch and a stretch in dashes.
abbrev key : List ℕ
key = codes "<path class='start' d='M2,112l18,9l-18,9z'/><text class='small' x='26' y='127'>start</text><path class='end' d='M80,11"
    ++ (codes "4h14v14h-14z'/><text class='small' x='102' y='127'>end</text>"
    ++ (10 ∷ codes "<path fill='#222' d='M160,121m-5,0a5,5,0,1,0,10,0a5,5,0,1,0,-10,0'/>"
    ++ (10 ∷ codes "<path fill='#ffd400' stroke='#222' stroke-width='2' d='M268,121m-9,0a9,9,0,1,0,18,0a9,9,0,1,0,-18,0'/>"
    ++ (10 ∷ codes "<text class='small' x='174' y='127'>junction</text><text class='small' x='286' y='127'>odd junction</text>"
    ++ (10 ∷ codes "<path fill='none' stroke='#d00' stroke-width='3' d='M18,147m-15,0a15,15,0,1,0,30,0a15,15,0,1,0,-30,0'/>"
    ++ (10 ∷ codes "<path fill='none' stroke='#d00' stroke-width='3' d='M218,147m-13,-13h26v26h-26z'/>"
    ++ (10 ∷ codes "<path fill='none' stroke='#d00' stroke-width='3' d='M428,147m-18,0l18,-18l18,18l-18,18z'/>"
    ++ (10 ∷ codes "<path fill='none' stroke='#d00' stroke-width='3' d='M18,181m-13,-13l26,26m-26,0l26,-26'/>"
    ++ (10 ∷ codes "<path fill='none' stroke='#d00' opacity='.5' stroke-width='16' d='M206,181L230,181'/>"
    ++ (10 ∷ codes "<path fill='none' stroke='#d00' opacity='.5' stroke-width='10' stroke-dasharray='2 16' d='M412,181L444,181'/>"
    ++ (10 ∷ codes "<text class='small' x='42' y='153'>loose ends 1</text><text class='small' x='242' y='153'>near points 0</text><text cl"
    ++ (codes "ass='small' x='456' y='153'>unlisted meetings 0</text>"
    ++ (10 ∷ codes "<text class='small' x='42' y='187'>crossings 1</text><text class='small' x='242' y='187'>overlaps 0</text><text class="
    ++ (codes "'small' x='456' y='187'>repeated segments 0</text>"
    ++ (10 ∷ codes "<text class='small' y='215'>Grid of 10 mm, with coordinates in tenths of a millimetre.</text>"
    ++ (10 ∷ codes "<text class='small' y='241'>Blue: the numbers of lines, and of pieces P1, P2 and so on, as look has them.</text>"
    ++ 10 ∷ []))))))))))))))))

-- The threads of the two blocks, and the ends of the four groups.
abbrev legend : List ℕ
legend = codes "<g transform='translate(0,248)'>"
    ++ (10 ∷ codes "<g transform='translate(0,28)'><path stroke-width='14' d='M7,-7h26' stroke='#9ed67d'/><text x='52'>thread 10</text>"
    ++ (codes "<text class='small' x='165'>Mint Green</text></g>"
    ++ (10 ∷ codes "<g transform='translate(0,56)'><path stroke-width='14' d='M7,-7h26' stroke='#e8a900'/><text x='52'>thread 11</text>"
    ++ (codes "<text class='small' x='165'>Deep Gold</text></g>"
    ++ (10 ∷ codes "</g>"
    ++ (10 ∷ codes "</g>"
    ++ (10 ∷ codes "</g>"
    ++ (10 ∷ codes "</svg>" ++ 10 ∷ []))))))))

pub known_drawing_picture : picture_of_pieces drawing (Some (record { width = 43; height = 100 })) (map (piece_graph drawing) pieces) drawn
    ≡ top ++ (grid ++ (paths ++ (labels ++ (marks ++ (below ++ (key ++ legend))))))
unfolding around below_head below_start block_start column_start coloured_path colour_of_thread coordinate_end counts_text digits
    drawing_below drawing_marks drawing_with filled foot_text grid_start grid_words group_end head_text labels_start left_label mark_keys
    mark_text
    more_blocks move_text name_of_thread path_end place_shape place_words right_label row_start shape_at straight_text stretch_shape
    thread_end title_text told top_text
known_drawing_picture = refl
