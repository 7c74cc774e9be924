-- The texts below a picture of a design: counts, lengths, the meaning of the marks, and a line for
-- each block. Lengths of thread are in thousandths of a millimetre.
use Rattle.std.specs.Prelude.{ℕ, ◌*◌, ◌/◌, List, [], ◌∷◌, ◌++◌, codes}
use Rattle.std.specs.Fmt.{decimal}
use Rattle.design_model.specs.declared.tally.Counts.{Counts}
use Rattle.design_picture.specs.declared.block_line.TheConstants.{LINE_HEIGHT}
use Rattle.design_picture.specs.declared.pen.Pen.{Pen}
use Rattle.design_picture.specs.declared.strokes.BlockEnd.{BlockEnd}
use Rattle.design_picture.specs.declared.strokes.Stroke.{Stroke}
use Rattle.design_picture.specs.declared.strokes.Stroke.TheVariants.{Begin, Float, Sewn, Trim, Stop}
use Rattle.picture_parts.specs.Colours.{colour_of_thread}
use Rattle.picture_parts.specs.Parts.{ended, filled, mm_text}
use Rattle.picture_parts.specs.ThreadNames.{name_of_thread}

-- What the marks mean.
abbrev pub key_text : List ℕ
key_text =
    codes "<path class='start' d='M2,112l18,9l-18,9z'/><text class='small' x='26' y='12"
    ++ (codes "7'>thread begins</text>"
    ++ (codes "<path class='end' d='M152,114h14v14h-14z'/><text class='small' x='174' y='12"
    ++ (codes "7'>ends</text>"
    ++ (codes "<text class='small' x='226' y='127'>1 piece</text><path class='stop' d='M300"
    ++ (codes ",114h4v14h-4zm8,0h4v14h-4z'/>"
    ++ (codes "<text class='small' x='322' y='127'>stop</text><path class='trim' d='M376,11"
    ++ (codes "5l12,12m-12,0l12,-12'/>"
    ++ (codes "<text class='small' x='398' y='127'>trim</text><path class='travel' d='M448,"
    ++ (codes "121h30h1'/><text class='small' x='490' y='127'>travel</text>"
    ++ (10 ∷ codes "<text class='small' y='153'>Sewn again: beside the first, in dashes.</text>"
    ++ (codes "<path fill='none' stroke='#d00' stroke-width='2' d='M345,139h16v16h-16z'/>"
    ++ ended
    (codes "<text class='small' x='370' y='153'>7 needles or more in a hole</text>"))))))))))))

-- Counts, lengths and the meaning of the marks, before the lines of the legend.
unfoldable pub caption : Counts → Pen → List ℕ
caption counts pen = filled (codes "<text y='72'>needles @, pieces @, trims @, stops @</text>"
    ++ (10 ∷ codes "<text y='100'>thread @ mm, travel @ mm</text>"
    ++ (10 ∷ ended (codes "@<g transform='translate(0,160)'>"))))
    (decimal counts.needles ∷ decimal pen.pieces ∷ decimal counts.trims ∷ decimal counts.stops
    ∷ mm_text (pen.thread / 100) ∷ mm_text (pen.travel / 100) ∷ key_text ∷ [])

-- The end of a group.
unfoldable pub group_end : List ℕ
group_end = filled (ended (codes "</g>")) []

-- The beginning of the line of a block: the colour and the number of its thread.
unfoldable pub block_start : ℕ → List ℕ → ℕ → List ℕ
block_start block colour thread = filled (codes "<g transform='translate(0,@)'><path stroke-width"
    ++ codes "='14' d='M7,-7h26' stroke='@'/><text x='52'>thread @")
    (decimal (LINE_HEIGHT * block) ∷ colour ∷ decimal thread ∷ [])

-- The name of the thread, the needles and the length of a block.
unfoldable pub block_words : BlockEnd → List ℕ
block_words block = filled (codes "</text><text class='small' x='165'>@</text><text x='305'>"
    ++ (codes "needles @</text><text x='480'>@ mm" ++ ended (codes "</text></g>")))
    (name_of_thread block.thread ∷ decimal block.needles ∷ mm_text (block.sewn / 100) ∷ [])

-- The line of a block.
abbrev pub block_line : BlockEnd → List ℕ
block_line block =
    block_start block.block (colour_of_thread block.thread) block.thread ++ block_words block

-- The legend's line of a stroke that ends a block.
abbrev pub legend_text : Stroke → List ℕ
legend_text (Begin start) = []
legend_text (Float from p) = []
legend_text (Sewn stitch) = []
legend_text (Trim p) = []
legend_text (Stop ended next) = block_line ended
