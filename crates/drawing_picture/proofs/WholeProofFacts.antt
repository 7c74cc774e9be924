-- The constants of pictures of drawings and of proofs, the lines of a proof's reason, and the order of its layers.
use Rattle.std.proofs.Common.{◌≡◌, ℕ, List, [], ◌∷◌, ◌++◌, Some, codes, refl}
use Rattle.std.specs.Fmt.{digits}
use Rattle.drawing_picture.proofs.BandFacts.{at}
use Rattle.drawing_picture.proofs.Names.{DesignValue, proof_of_design}
use Rattle.design_model.specs.declared.command.Command.TheVariants.{Stitch}
use Rattle.design_picture.specs.Captions.{block_start, block_words, caption, group_end, key_text}
use Rattle.design_picture.specs.Layers.{path_layer}
use Rattle.design_picture.specs.Layouts.{below_head, below_start, title_text, top_text}
use Rattle.design_picture.specs.Pictures.{below_text, over_text, seconds_text, threads_text}
use Rattle.design_picture.specs.StrokeMarks.{piece_number}
use Rattle.design_picture.specs.Threads.{arc_text, arrow_shape, hole_shape}
use Rattle.drawing_picture.specs.declared.proof_captions.TheConstants.{REASON_LINES}
use Rattle.drawing_picture.specs.BandTexts.{band_group}
use Rattle.drawing_picture.specs.ProofPictures.{proof_with, reason_lines}
use Rattle.design_model.specs.Lengths.{length_of, square_of, whole_root}
use Rattle.picture_parts.specs.AgainColours.{again_colour_of}
use Rattle.picture_parts.specs.Colours.{colour_of_thread}
use Rattle.picture_parts.specs.Marks.{mark_text, shape_at}
use Rattle.picture_parts.specs.Parts.{around, filled}
use Rattle.picture_parts.specs.Paths.{coloured_path, move_text, path_end, path_start, straight_text}
use Rattle.picture_parts.specs.ThreadNames.{name_of_thread}
use Rattle.picture_parts.specs.Sheets.{foot_text, head_text, style_text}

-- The reason takes the room of five lines of the legend.
pub known_constants : REASON_LINES ≡ 5
known_constants = refl

-- A stitch of 3 mm forth and back, with the thread 1.
abbrev design : DesignValue
design = record { label = codes "I"; threads = 1 ∷ []; commands = Stitch (at 0) ∷ Stitch (at 30) ∷ Stitch (at 0) ∷ [] }

-- A line of the legend and five of the reason are below it: 12, 19 and six lines of 2.8 mm. It is to fit 10 cm by 3 cm.
abbrev top : List ℕ
top = codes "<svg xmlns='http://www.w3.org/2000/svg' width='100.0mm' height='30.0mm' viewBox='0,0,680,478'>"
    ++ (10 ∷ codes "<path fill='#d9d1be' d='M0,0h680v478h-680z'/>" ++ (10 ∷ style_text
    ++ (codes "<title>Embroidery I</title>"
    ++ (10 ∷ codes "<desc>No thread over a piece with these ends has fewer stitches than the one that is shown: "
    ++ (codes "the bands of the cuts prove it. "
    ++ (codes "Each thread is sewn from its triangle to its square, along the arrows, and what is sewn again is drawn in "
    ++ (codes "dashes beside the first.</desc>"
    ++ (10 ∷ codes "<g transform='translate(60,60)'>" ++ 10 ∷ []))))))))

-- Bands are in half tenths of a millimetre, below the thread. Above it is what is sewn again, orange on blue, then holes, arrows and
-- marks.
abbrev layers : List ℕ
layers = codes "<g transform='scale(.5)'>" ++ (10 ∷ codes "BANDS</g>" ++ (10 ∷ codes "<path class='thread' stroke='#0e1f7c' d='"
    ++ (10 ∷ codes "M0,0L30,0A30,30,0,0,1,0,0'/>" ++ (10 ∷ codes "<path class='again' stroke='#ff6a00' d='"
    ++ (10 ∷ codes "M30,0A30,30,0,0,1,0,0'/>" ++ (10 ∷ codes "<path class='hole' d='M0,0h0M30,0h0M0,0h0'/>"
    ++ (10 ∷ codes "<path class='arrow' d='M30,0A30,30,0,0,1,0,0'/>" ++ (10 ∷ codes "<path class='start' d='M0,0m-23,-9l18,9l-18,9z'/>"
    ++ (10 ∷ codes "<text x='-4' y='-10' text-anchor='end' transform='translate(0,0)'>1</text>"
    ++ (10 ∷ codes "<path class='end' d='M0,0m6,-7h14v14h-14z'/>" ++ 10 ∷ []))))))))))

abbrev below : List ℕ
below = codes "<g transform='translate(0,0) translate(0,60)'>"
    ++ (10 ∷ codes "<path class='line' d='M0,-6v12m0,-6h100m0,-6v12'/><text x='112' y='7'>10 mm</text>"
    ++ (10 ∷ codes "<text y='44'>I 3.0 x 0.0 mm</text>" ++ (10 ∷ codes "<text x='220' y='7'>scale 1 : 1.6</text>"
    ++ (10 ∷ codes "<text y='72'>needles 3, pieces 1, trims 0, stops 0</text>"
    ++ (10 ∷ codes "<text y='100'>thread 6.0 mm, travel 0.0 mm</text>" ++ (10 ∷ key_text
    ++ (codes "<g transform='translate(0,160)'>"
    ++ (10 ∷ codes "<g transform='translate(0,28)'><path stroke-width='14' d='M7,-7h26' stroke='#0e1f7c'/>"
    ++ (codes "<text x='52'>thread 1</text><text class='small' x='165'>Prussian Blue</text>"
    ++ (codes "<text x='305'>needles 3</text><text x='480'>6.0 mm</text></g>"
    ++ (10 ∷ codes "</g>" ++ 10 ∷ [])))))))))))

-- The reason is 17 mm and a line of 2.8 mm below, and its last line has the steps.
abbrev reason : List ℕ
reason = codes "<g transform='translate(0,198)'>"
    ++ (10 ∷ codes "<text y='24'>No thread with these ends has fewer stitches.</text>"
    ++ (10 ∷ codes "<text class='small' y='46'>Dashes: what is sewn again. Bands of one colour: a cut, round the</text>"
    ++ (10 ∷ codes "<text class='small' y='68'>junctions that it holds, as wide as its weight. An odd number of lines</text>"
    ++ (10 ∷ codes "<text class='small' y='90'>leads out of each cut (a given end's way back to the start is one), so</text>"
    ++ (10 ∷ codes "<text class='small' y='112'>a thread passes the width of its band once more than the lines ask,</text>"
    ++ (10 ∷ codes "<text class='small' y='134'>and all bands together are as wide as what is sewn again: steps 9.</text>"
    ++ (10 ∷ codes "</g>" ++ (10 ∷ codes "</g>" ++ (10 ∷ codes "</g>" ++ (10 ∷ codes "</svg>" ++ 10 ∷ []))))))))))

pub known_proof_picture : proof_of_design design (Some (record { width = 100; height = 30 })) (codes "BANDS") 9
    ≡ top ++ (layers ++ (below ++ reason))
unfolding again_colour_of arc_text around arrow_shape band_group below_head below_start below_text block_start block_words caption
    coloured_path colour_of_thread digits filled foot_text group_end head_text hole_shape length_of mark_text move_text name_of_thread
    over_text path_end
    path_layer path_start piece_number proof_with reason_lines seconds_text shape_at square_of straight_text threads_text title_text
    top_text whole_root
known_proof_picture = refl
