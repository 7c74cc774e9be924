-- The texts of bands.
use Rattle.std.specs.Prelude.{ℕ, ◌%◌, ◌==◌, List, [], ◌∷◌, ◌++◌, codes, if◌then◌else◌}
use Rattle.std.specs.List.{flat_map}
use Rattle.design_model.specs.declared.point.Point.{Point}
use Rattle.drawing_picture.specs.Bands.{Band, bands_on}
use Rattle.line_graph.specs.declared.edge.Edge.{Edge}
use Rattle.line_graph.specs.Drawings.{DrawingValue}
use Rattle.line_graph.specs.PieceGraphs.{PieceValue}
use Rattle.odd_cuts.specs.declared.certificate.PieceCert.{PieceCert}
use Rattle.odd_cuts.specs.declared.cut.Cut.{Cut}
use Rattle.picture_parts.specs.Parts.{around, ended, filled}
use Rattle.picture_parts.specs.Paths.{path_end}

-- The colour of the cut with the given number: six colours, again and again.
abbrev pub colour_of_cut : ℕ → List ℕ
colour_of_cut number = if number % 6 == 0 then codes "#1b9e77"
    else (if number % 6 == 1 then codes "#e6ab02"
    else (if number % 6 == 2 then codes "#7570b3"
    else (if number % 6 == 3 then codes "#66a61e"
    else (if number % 6 == 4 then codes "#e7298a" else codes "#a6761d"))))

-- The beginning of a band of a colour.
unfoldable pub band_start : List ℕ → List ℕ
band_start colour = filled (codes "<path class='band' stroke='@' d='M") (colour ∷ [])

-- A point of a way.
unfoldable pub way_point : Point → List ℕ
way_point p = around [] p (codes " ")

-- The points of a way.
abbrev pub way_points : List Point → List ℕ
way_points points = flat_map way_point points

-- A band.
abbrev pub band_text : Band → List ℕ
band_text band = band_start (colour_of_cut band.number) ++ (way_points band.way ++ path_end)

-- The bands on a line.
abbrev pub line_bands : DrawingValue → List Cut → ℕ → Edge → List ℕ
line_bands d cuts line e = flat_map band_text (bands_on d cuts line e)

-- The bands on lines, which are those edges of their piece.
abbrev pub bands_of_lines : DrawingValue → List Cut → List ℕ → List Edge → List ℕ
bands_of_lines d cuts [] edges = []
bands_of_lines d cuts (line ∷ lines) [] = []
bands_of_lines d cuts (line ∷ lines) (e ∷ edges) =
    line_bands d cuts line e ++ bands_of_lines d cuts lines edges

-- The bands of the certificates of pieces.
abbrev pub bands_of_pieces : DrawingValue → List PieceValue → List PieceCert → List ℕ
bands_of_pieces d [] certs = []
bands_of_pieces d (p ∷ pieces) [] = []
bands_of_pieces d (p ∷ pieces) (cert ∷ certs) =
    bands_of_lines d cert.cuts p.lines p.edges ++ bands_of_pieces d pieces certs

-- The group of bands, whose points are in half tenths of a millimetre.
unfoldable pub band_group : List ℕ → List ℕ
band_group bands =
    filled (ended (codes "<g transform='scale(.5)'>") ++ ended (codes "@</g>")) (bands ∷ [])
