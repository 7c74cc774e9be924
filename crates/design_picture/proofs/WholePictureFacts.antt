-- The picture of a design in a hoop that isn't a square, entire and by hand. A stitch is sewn four times, two threads are next to each
-- other in the palette, and a stitch of 0.6 mm hides its needle hole. Points are in tenths of a millimetre.
use Rattle.std.proofs.Common.{◌≡◌, ℕ, List, pos, negsuc, [], ◌∷◌, ◌++◌, Some, None, codes, refl}
use Rattle.std.specs.Fmt.{digits}
use Rattle.design_picture.proofs.Names.{DesignValue, pen_of}
use Rattle.design_picture.proofs.PictureFacts.{point}
use Rattle.design_model.specs.declared.command.Command.TheVariants.{Stitch, Jump}
use Rattle.design_model.specs.declared.command.Command.TheVariants as command
use Rattle.design_picture.specs.Captions.{block_start, block_words, caption, group_end, key_text}
use Rattle.design_picture.specs.Hoops.{hoop_end, hoop_key_end, hoop_key_start, hoop_start, hoop_text, offset_text}
use Rattle.design_picture.specs.Layers.{path_layer}
use Rattle.design_picture.specs.Layouts.{below_head, below_start, scale_key, title_text, top_text}
use Rattle.design_picture.specs.Pictures.{below_text, design_area, framed_text, middle_mark, over_text, picture_of, picture_with, seconds_text, sewn_text_of, threads_text}
use Rattle.design_picture.specs.PlainPictures.{plain_picture_of, plain_picture_with}
use Rattle.design_picture.specs.StrokeMarks.{piece_number}
use Rattle.design_picture.specs.Threads.{arc_text, arrow_shape, hole_shape, travel_shape}
use Rattle.picture_parts.specs.AgainColours.{again_colour_of}
use Rattle.picture_parts.specs.Colours.{colour_of_thread}
use Rattle.design_model.specs.Lengths.{length_of, square_of, whole_root}
use Rattle.picture_parts.specs.Marks.{mark_text, shape_at}
use Rattle.picture_parts.specs.Parts.{around, filled}
use Rattle.picture_parts.specs.Paths.{coloured_path, move_text, path_end, path_start, straight_text}
use Rattle.picture_parts.specs.PlainSheets.{plain_foot_text, plain_head_text, plain_title_text}
use Rattle.picture_parts.specs.ThreadNames.{name_of_thread}
use Rattle.picture_parts.specs.Sheets.{foot_text, head_text, style_text}

-- Four stitches of 3 mm forth and back, one of 0.6 mm, a trim and a stop. Then, 5 mm away, a stitch of 0.7 mm, a float of 1.5 mm, a
-- trim, and 4 mm away a needle.
abbrev design : DesignValue
design = record {
  label = codes "A&B";
  threads = 10 ∷ 11 ∷ [];
  commands = Stitch (point (pos 10) (negsuc 19)) ∷ Stitch (point (pos 40) (negsuc 19)) ∷ Stitch (point (pos 10) (negsuc 19))
      ∷ Stitch (point (pos 40) (negsuc 19)) ∷ Stitch (point (pos 10) (negsuc 19)) ∷ Stitch (point (pos 10) (negsuc 13))
      ∷ command.Trim ∷ command.Stop
      ∷ Stitch (point (pos 50) (pos 16)) ∷ Stitch (point (pos 50) (pos 23)) ∷ Jump (point (pos 45) (pos 15))
      ∷ Stitch (point (pos 41) (pos 11)) ∷ command.Trim ∷ Stitch (point (pos 41) (pos 51)) ∷ [];
}

-- The design has 4 mm by 7.1 mm and fits a hoop of 10 mm by 5 mm only turned. At a side are 6 mm and half of 1 mm, above 6 mm and half
-- of 2.9 mm, rounded up. The sheet has 56 mm for the texts and 6.5 mm at each side, and 7.1, 15, 19 and three lines of 2.8 mm. It is to
-- fit 21 cm by 29.7 cm.
abbrev top : List ℕ
top = codes "<svg xmlns='http://www.w3.org/2000/svg' width='210.0mm' height='297.0mm' viewBox='10,-20,690,495'>"
    ++ (10 ∷ codes "<path fill='#d9d1be' d='M10,-20h690v495h-690z'/>" ++ (10 ∷ style_text
    ++ (codes "<title>Embroidery A&amp;B</title>"
    ++ (10 ∷ codes "<desc>Each thread is sewn from its triangle to its square, along the arrows. "
    ++ (codes "A stitch that is sewn again is drawn beside the first.</desc>"
    ++ (10 ∷ codes "<g transform='translate(65,75)'>" ++ 10 ∷ []))))))

-- The origin, the middle, which is 2 mm and 3.55 mm from the corner, and the hoop, which begins 0.5 mm and 1.45 mm before it.
abbrev frame : List ℕ
frame = codes "<path class='line' d='M-12,0h24M0,-12v24M-7,0a7,7,0,1,0,14,0a7,7,0,1,0,-14,0'><title>origin</title></path>"
    ++ (10 ∷ codes "<path class='line' d='M10,-20m20.0,35.5m-9,0l9,-9l9,9l-9,9z'><title>middle</title></path>"
    ++ (10 ∷ codes "<path class='line' d='M10,-20m-5.0,-14.5h50v100h-50z'/>" ++ 10 ∷ []))

-- The ways to the second piece, of the float, and to the third piece. Then the threads 10 and 11: the second, the third and the fourth
-- pass of the stitch are arcs of the radii 900 / 32 + 2, 900 / 64 + 4 and 900 / 96 + 6.
abbrev threads : List ℕ
threads = codes "<path class='travel' d='M10,-14L50,16'/>" ++ (10 ∷ codes "<path class='travel' d='M50,23L41,11'/>"
    ++ (10 ∷ codes "<path class='travel' d='M41,11L41,51'/>" ++ (10 ∷ codes "<path class='thread' stroke='#9ed67d' d='"
    ++ (10 ∷ codes "M10,-20L40,-20A30,30,0,0,1,10,-20A18,18,0,0,1,40,-20A15,15,0,0,1,10,-20L10,-14'/>"
    ++ (10 ∷ codes "<path class='thread' stroke='#e8a900' d='" ++ (10 ∷ codes "M50,16L50,23" ++ (10 ∷ codes "M41,11"
    ++ (10 ∷ codes "M41,51'/>" ++ 10 ∷ []))))))))

-- What is sewn again, in dashes: blue on Mint Green; of Deep Gold there is nothing.
abbrev seconds : List ℕ
seconds = codes "<path class='again' stroke='#1d3bd1' d='" ++ (10 ∷ codes "M40,-20A30,30,0,0,1,10,-20"
    ++ (10 ∷ codes "M10,-20A18,18,0,0,1,40,-20"
    ++ (10 ∷ codes "M40,-20A15,15,0,0,1,10,-20'/>" ++ (10 ∷ codes "<path class='again' stroke='#1d3bd1' d=''/>" ++ 10 ∷ []))))

-- The needle holes, without that of the stitch of 0.6 mm. Arrows at the second and the fourth pass, before which are 2.5 and 3 mm, and
-- 6 mm of thread.
abbrev holes_and_arrows : List ℕ
holes_and_arrows = codes "<path class='hole' d='M10,-20h0M40,-20h0M10,-20h0M40,-20h0M10,-20h0M50,16h0M50,23h0M41,11h0M41,51h0'/>"
    ++ (10 ∷ codes "<path class='arrow' d='M40,-20A30,30,0,0,1,10,-20'/>"
    ++ (10 ∷ codes "<path class='arrow' d='M40,-20A15,15,0,0,1,10,-20'/>" ++ 10 ∷ []))

-- The first block has a triangle, the number 1, a cross, a square and two bars. The second has a triangle and the number 2, a cross,
-- the number 3 without a triangle, and a square.
abbrev marks : List ℕ
marks = codes "<path class='start' d='M10,-20m-23,-9l18,9l-18,9z'/>"
    ++ (10 ∷ codes "<text x='-4' y='-10' text-anchor='end' transform='translate(10,-20)'>1</text>"
    ++ (10 ∷ codes "<path class='trim' d='M10,-14m-6,8l12,12m-12,0l12,-12'/>"
    ++ (10 ∷ codes "<path class='end' d='M10,-14m6,-7h14v14h-14z'/>"
    ++ (10 ∷ codes "<path class='stop' d='M10,-14m25,-7h4v14h-4zm8,0h4v14h-4z'/>"
    ++ (10 ∷ codes "<path class='start' d='M50,16m-23,-9l18,9l-18,9z'/>"
    ++ (10 ∷ codes "<text x='-4' y='-10' text-anchor='end' transform='translate(50,16)'>2</text>"
    ++ (10 ∷ codes "<path class='trim' d='M41,11m-6,8l12,12m-12,0l12,-12'/>"
    ++ (10 ∷ codes "<text x='-4' y='-10' text-anchor='end' transform='translate(41,51)'>3</text>"
    ++ (10 ∷ codes "<path class='end' d='M41,51m6,-7h14v14h-14z'/>" ++ 10 ∷ [])))))))))

-- The bar of 10 mm, below the lower left corner, the label and the size, the scale, which is 21000 / 690, the counts, 12.6 and 2.2 mm of
-- thread, and 5 and 4 mm of travel.
abbrev below : List ℕ
below = codes "<g transform='translate(10,51) translate(0,75)'>"
    ++ (10 ∷ codes "<path class='line' d='M0,-6v12m0,-6h100m0,-6v12'/><text x='112' y='7'>10 mm</text>"
    ++ (10 ∷ codes "<text y='44'>A&amp;B 4.0 x 7.1 mm</text>" ++ (10 ∷ codes "<text x='220' y='7'>scale 3.0 : 1</text>"
    ++ (10 ∷ codes "<text y='72'>needles 10, pieces 3, trims 2, stops 1</text>"
    ++ (10 ∷ codes "<text y='100'>thread 14.8 mm, travel 9.0 mm</text>" ++ 10 ∷ [])))))

-- The lines of the two blocks and of the hoop, and the ends of the groups.
abbrev legend : List ℕ
legend = codes "<g transform='translate(0,160)'>"
    ++ (10 ∷ codes "<g transform='translate(0,28)'><path stroke-width='14' d='M7,-7h26' stroke='#9ed67d'/>"
    ++ (codes "<text x='52'>thread 10</text><text class='small' x='165'>Mint Green</text>"
    ++ (codes "<text x='305'>needles 6</text><text x='480'>12.6 mm</text></g>"
    ++ (10 ∷ codes "<g transform='translate(0,56)'><path stroke-width='14' d='M7,-7h26' stroke='#e8a900'/>"
    ++ (codes "<text x='52'>thread 11</text><text class='small' x='165'>Deep Gold</text>"
    ++ (codes "<text x='305'>needles 4</text><text x='480'>2.2 mm</text></g>"
    ++ (10 ∷ codes "</g>" ++ (10 ∷ codes "<g transform='translate(0,244)'><text class='small'>hoop 10.0 x 5.0 mm: fits turned</text>"
    ++ (codes "<path class='line' d='M498,-6m-9,0l9,-9l9,9l-9,9z'/><text class='small' x='514'>middle</text></g>"
    ++ (10 ∷ codes "</g>" ++ (10 ∷ codes "</g>" ++ (10 ∷ codes "</svg>" ++ 10 ∷ []))))))))))))

-- Each shape of the key is that of its mark, around the height 121, and the words follow it.
abbrev key : List ℕ
key = codes "<path class='start' d='M2,112l18,9l-18,9z'/><text class='small' x='26' y='127'>thread begins</text>"
    ++ (codes "<path class='end' d='M152,114h14v14h-14z'/><text class='small' x='174' y='127'>ends</text>"
    ++ (codes "<text class='small' x='226' y='127'>1 piece</text>"
    ++ (codes "<path class='stop' d='M300,114h4v14h-4zm8,0h4v14h-4z'/><text class='small' x='322' y='127'>stop</text>"
    ++ (codes "<path class='trim' d='M376,115l12,12m-12,0l12,-12'/><text class='small' x='398' y='127'>trim</text>"
    ++ (codes "<path class='travel' d='M448,121h30h1'/><text class='small' x='490' y='127'>travel</text>"
    ++ (10 ∷ codes "<text class='small' y='153'>Sewn again: beside the first, in dashes.</text>"
    ++ (codes "<path fill='none' stroke='#d00' stroke-width='2' d='M345,139h16v16h-16z'/>"
    ++ (codes "<text class='small' x='370' y='153'>7 needles or more in a hole</text>" ++ 10 ∷ []))))))))

pub known_key : key_text ≡ key
known_key = refl

pub known_picture : picture_of design (Some (record { width = 100; height = 50 })) (Some (record { width = 210; height = 297 }))
    ≡ top ++ (frame ++ (threads ++ (seconds ++ (holes_and_arrows ++ (marks ++ (below ++ (key ++ legend)))))))
unfolding again_colour_of arc_text around arrow_shape below_head below_start below_text block_start block_words caption
    coloured_path colour_of_thread digits filled foot_text framed_text group_end head_text hole_shape hoop_end
    hoop_key_end hoop_key_start hoop_start hoop_text length_of mark_text middle_mark move_text name_of_thread
    offset_text over_text path_end path_layer path_start picture_with piece_number seconds_text sewn_text_of shape_at
    square_of straight_text threads_text title_text top_text travel_shape whole_root
known_picture = refl

-- The thread alone on the colour fafbfc: the sheet has 6 mm around 4 mm by 7.1 mm, and is to fit a square of 1 cm.
pub known_plain : plain_picture_of design (codes "fafbfc") (Some (record { width = 10; height = 10 }))
    ≡ codes "<svg xmlns='http://www.w3.org/2000/svg' width='10.0mm' height='10.0mm' viewBox='10,-20,160,191'>"
    ++ (10 ∷ codes "<path fill='#fafbfc' d='M10,-20h160v191h-160z'/>"
    ++ (10 ∷ codes "<style>.thread{fill:none;stroke-width:3;stroke-linecap:round;stroke-linejoin:round}</style>"
    ++ (10 ∷ codes "<desc>scale 1 : 1.9</desc>"
    ++ (10 ∷ codes "<title>Embroidery A&amp;B</title>" ++ (10 ∷ codes "<g transform='translate(60,60)'>"
    ++ (10 ∷ codes "<path class='thread' stroke='#9ed67d' d='"
    ++ (10 ∷ codes "M10,-20L40,-20A30,30,0,0,1,10,-20A18,18,0,0,1,40,-20A15,15,0,0,1,10,-20L10,-14'/>"
    ++ (10 ∷ codes "<path class='thread' stroke='#e8a900' d='" ++ (10 ∷ codes "M50,16L50,23" ++ (10 ∷ codes "M41,11"
    ++ (10 ∷ codes "M41,51'/>" ++ (10 ∷ codes "</g>" ++ (10 ∷ codes "</svg>" ++ 10 ∷ [])))))))))))))
unfolding arc_text around coloured_path colour_of_thread digits filled length_of move_text path_end plain_foot_text plain_head_text
    plain_picture_with plain_title_text square_of straight_text whole_root
known_plain = refl

-- Without a hoop the sheet has 68 mm by 43.7 mm. It is to fit 21 mm by 29.7 cm, 21 cm by 29.7 cm, or is in true size.
pub known_scale_keys : (scale_key (design_area design None (Some (record { width = 21; height = 297 })) (pen_of design))
    ≡ codes "<text x='220' y='7'>scale 1 : 3.2</text>" ++ 10 ∷ [])
    × (scale_key (design_area design None (Some (record { width = 210; height = 297 })) (pen_of design))
    ≡ codes "<text x='220' y='7'>scale 3.1 : 1</text>" ++ 10 ∷ [])
    × (scale_key (design_area design None None (pen_of design)) ≡ [])
unfolding digits filled length_of square_of whole_root
known_scale_keys = (refl, refl, refl)
