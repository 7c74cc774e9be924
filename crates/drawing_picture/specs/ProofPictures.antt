-- The picture of a proof: the walks of a certificate as the design that sews them, with what is
-- sewn again in dashes of a second colour, and the cuts as bands. Below it stands that no thread
-- has fewer stitches, and why. The unit is a tenth of a millimetre.
use Rattle.std.specs.Prelude.{ℕ, ◌+◌, ◌*◌, List, [], ◌∷◌, ◌++◌, Option, codes, sum_by}
use Rattle.std.specs.Fmt.{decimal}
use Rattle.design_model.specs.Designs.{DesignValue}
use Rattle.design_model.specs.Extents.{extent_of}
use Rattle.design_picture.specs.declared.block_line.TheConstants.{LINE_HEIGHT}
use Rattle.design_picture.specs.declared.layout.Area.{Area}
use Rattle.design_picture.specs.declared.pen.Pen.{Pen}
use Rattle.design_picture.specs.declared.strokes.Stroke.{Stroke}
use Rattle.design_picture.specs.Layouts.{area_of, top_text}
use Rattle.design_picture.specs.Pictures.{below_text, over_text, seconds_text, threads_text}
use Rattle.design_picture.specs.Strokes.{pen_of, strokes_of}
use Rattle.drawing_picture.specs.declared.proof_captions.TheConstants.{REASON_LINES}
use Rattle.drawing_picture.specs.BandTexts.{band_group, bands_of_pieces}
use Rattle.line_graph.specs.Drawings.{DrawingValue}
use Rattle.line_graph.specs.PieceGraphs.{PieceValue}
use Rattle.line_graph.specs.Runs.{sewn_design}
use Rattle.odd_cuts.specs.declared.certificate.PieceCert.{PieceCert}
use Rattle.odd_cuts.specs.Certificates.{walks_of}
use Rattle.picture_parts.specs.declared.sizes.PictureSize.{PictureSize}
use Rattle.picture_parts.specs.Parts.{ended, filled}
use Rattle.picture_parts.specs.Sheets.{foot_text}

-- The area of a proof: below the legend are the lines of the reason.
abbrev pub proof_area : DesignValue → Option PictureSize → Pen → Area
proof_area design size pen = area_of (extent_of design) (record { width = 0; height = 0 })
    (pen.stops + 1 + REASON_LINES) size

-- The steps that the walks sew again.
abbrev pub retraced_steps : List PieceCert → ℕ
retraced_steps certs = sum_by (λ (cert : PieceCert). cert.retraced) certs

-- What the picture of a proof shows, in words.
abbrev pub proof_words : List ℕ
proof_words = codes "No thread over a piece with these ends has fewer stitches than the one that is"
    ++ (codes " shown: the bands of the cuts prove it. Each thread is sewn from its triangle to"
    ++ (codes " its square, along the arrows, and what is sewn again is drawn in dashes"
    ++ codes " beside the first."))

-- The text before the shapes of the picture of a proof.
abbrev pub proof_top : DesignValue → Area → List ℕ
proof_top design area = top_text area design.label proof_words

-- The lines that say that no thread has fewer stitches, and why, without the last line.
abbrev pub reason_text : List ℕ
reason_text = codes "<text y='24'>No thread with these ends has fewer stitches.</text>"
    ++ (10 ∷ codes "<text class='small' y='46'>Dashes: what is sewn again. Bands of one colour:"
    ++ (codes " a cut, round the</text>"
    ++ (10 ∷ codes "<text class='small' y='68'>junctions that it holds, as wide as its weight. An"
    ++ (codes " odd number of lines</text>"
    ++ (10 ∷ codes "<text class='small' y='90'>leads out of each cut (a given end's way back to the"
    ++ (codes " start is one), so</text>"
    ++ (10 ∷ codes "<text class='small' y='112'>a thread passes the width of its band once"
    ++ ended (codes " more than the lines ask,</text>"))))))))

-- The lines of the reason, below a legend of so many lines.
unfoldable pub reason_lines : ℕ → ℕ → List ℕ
reason_lines lines steps = filled (codes "<g transform='translate(0,@)'>"
    ++ (10 ∷ codes "@<text class='small' y='134'>and all bands together are as wide as what is"
    ++ (codes " sewn again: steps @.</text>" ++ (10 ∷ ended (codes "</g>")))))
    (decimal (170 + LINE_HEIGHT * lines) ∷ reason_text ∷ decimal steps ∷ [])

-- The picture of the strokes of a design, with bands. What is sewn again is in dashes of a second
-- colour, above the thread and below the needle holes.
unfoldable pub proof_with : DesignValue → List ℕ → ℕ → Area → List Stroke → Pen → List ℕ
proof_with design bands steps area strokes pen = proof_top design area
    ++ (band_group bands ++ (threads_text design strokes
    ++ (seconds_text design strokes ++ (over_text strokes pen
    ++ (below_text design area strokes pen
    ++ (reason_lines (pen.stops + 1) steps ++ foot_text))))))

-- The picture of a design with bands.
abbrev pub proof_of_design : DesignValue → Option PictureSize → List ℕ → ℕ → List ℕ
proof_of_design design size bands steps = proof_with design bands steps
    (proof_area design size (pen_of design)) (strokes_of design) (pen_of design)

-- The picture of the proof of a certificate, over the pieces of a drawing.
abbrev pub proof_of : DrawingValue → Option PictureSize → List PieceValue → List PieceCert → List ℕ
proof_of d size pieces certs = proof_of_design (sewn_design d (walks_of certs)) size
    (bands_of_pieces d pieces certs) (retraced_steps certs)
