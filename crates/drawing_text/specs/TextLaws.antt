-- Laws of texts: a canonical text is read as the drawing whose text it is, and its lines as they
-- were drawn. A text lists starts and ends in the order of their blocks.
use Rattle.std.specs.Prelude.{◌≡◌, ℕ, List, [], Ok}
use Rattle.line_graph.specs.Drawings.{DrawingValue, KeepsDrawingLimits}
use Rattle.line_graph.specs.JoinedDrawings.{joined_drawing}
use Rattle.line_graph.specs.WalkEnds.{HasNoEnds, IsValidDrawing}
use Rattle.drawing_text.specs.declared.version.Version.TheVariants as version
use Rattle.drawing_text.specs.CanonicalTexts.{canonical_text, canonical_text2}
use Rattle.drawing_text.specs.DrawingText.{drawing_of}
use Rattle.drawing_text.specs.DrawnTexts.{drawing_as_drawn, lines_of}
use Rattle.drawing_text.specs.EndTexts.{canonical_text3, drawn_text, with_ends_of}
use Rattle.line_graph.specs.EndOrders.{HasOrderedEnds}

-- The canonical text of a drawing without starts and ends is read as that drawing.
abbrev pub CanonicalTextIsRead : Type 0
CanonicalTextIsRead = (d : DrawingValue) → KeepsDrawingLimits d → HasNoEnds d
    → drawing_of (canonical_text d) ≡ Ok d

-- A joined drawing has the sections of drawn lines, and starts and ends of its own.
abbrev pub IsJoinedFrom : (drawn joined : DrawingValue) → Type 0
IsJoinedFrom drawn joined = joined_drawing (with_ends_of drawn joined) ≡ Ok joined

-- The canonical text 2 of drawn lines is read as their joined drawing, if it has no starts and
-- ends.
abbrev pub CanonicalText2IsRead : Type 0
CanonicalText2IsRead = (drawn joined : DrawingValue) → KeepsDrawingLimits drawn → HasNoEnds joined
    → IsJoinedFrom drawn joined → drawing_of (canonical_text2 drawn) ≡ Ok joined

-- The canonical text 3 of drawn lines with the starts and ends of their joined drawing is read as
-- that drawing, if it is valid and its starts and ends are in the order of their blocks.
abbrev pub CanonicalText3IsRead : Type 0
CanonicalText3IsRead = (drawn joined : DrawingValue) → KeepsDrawingLimits drawn
    → HasOrderedEnds joined → IsJoinedFrom drawn joined → IsValidDrawing joined
    → drawing_of (canonical_text3 (with_ends_of drawn joined)) ≡ Ok joined

-- The canonical text of drawn lines with the starts and ends of their joined drawing, in version 2
-- or 3, is read as that drawing.
abbrev pub DrawnTextIsRead : Type 0
DrawnTextIsRead = (drawn joined : DrawingValue) → KeepsDrawingLimits drawn → HasOrderedEnds joined
    → IsJoinedFrom drawn joined → IsValidDrawing joined
    → drawing_of (drawn_text (with_ends_of drawn joined)) ≡ Ok joined

-- The lines of the canonical text 2 of a drawing without starts and ends are those of the drawing.
abbrev pub CanonicalText2KeepsLines : Type 0
CanonicalText2KeepsLines = (d : DrawingValue) → KeepsDrawingLimits d → HasNoEnds d
    → lines_of (canonical_text2 d) ≡ Ok (record { version = version.Two; drawing = d; ends = [] })

-- The lines of the canonical text 3 of drawn lines with the starts and ends of their joined drawing
-- are the drawn lines.
abbrev pub CanonicalText3KeepsLines : Type 0
CanonicalText3KeepsLines = (drawn joined : DrawingValue) → KeepsDrawingLimits drawn
    → IsJoinedFrom drawn joined → IsValidDrawing joined
    → drawing_as_drawn (canonical_text3 (with_ends_of drawn joined))
    ≡ Ok (record drawn { starts = []; ends = [] })

-- The lines of the canonical text of drawn lines, in version 2 or 3, are the drawn lines.
abbrev pub DrawnTextKeepsLines : Type 0
DrawnTextKeepsLines = (drawn joined : DrawingValue) → KeepsDrawingLimits drawn → HasNoEnds drawn
    → IsJoinedFrom drawn joined → IsValidDrawing joined
    → drawing_as_drawn (drawn_text (with_ends_of drawn joined)) ≡ Ok drawn

-- The starts and ends of a drawing that a text describes are in the order of their blocks.
abbrev pub TextsOrderEnds : Type 0
TextsOrderEnds = (text : List ℕ) (d : DrawingValue) → drawing_of text ≡ Ok d → HasOrderedEnds d
