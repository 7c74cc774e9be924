-- What the laws of drawing texts exclude. The drawings are those of the facts on starts and ends.
use Rattle.std.proofs.Common.{◌≡◌, ◌≢◌, ◌∙◌, ℕ, true, List, [], ◌∷◌, Result, Ok, sym, subst}
use Rattle.drawing_text.proofs.EndTextFacts.{crossed, drawn_cross, known_block_disorder, later_spot, spot}
use Rattle.drawing_text.proofs.Names.{CanonicalText2IsRead, CanonicalText2KeepsLines, CanonicalText3IsRead, CanonicalText3KeepsLines, CanonicalTextIsRead, DrawnTextIsRead, DrawnTextKeepsLines, IsJoinedFrom, TextsOrderEnds, DrawingValue, KeepsDrawingLimits, HasNoEnds, HasOrderedEnds, IsValidDrawing, AreInBlockOrder, Spot, DrawFault, canonical_text, canonical_text2, canonical_text3, default_drawing, drawing_as2, drawing_as_drawn, drawing_of, drawn_text, is_joined, lines_of, with_ends_of}
use Rattle.drawing_text.proofs.ValidTextFacts.{known_no_block, known_two_starts}
use Rattle.drawing_text.specs.ValidTexts.{TextsAs2DefineValidDrawings, TextsDefineValidDrawings}
use Rattle.drawing_text.specs.declared.drawn_lines.DrawnLines.{DrawnLines}
use Rattle.drawing_text.specs.declared.version.Version.TheVariants as version

-- a result other than that drawing
abbrev Other : Result DrawingValue DrawFault → DrawingValue → Type 0
Other other d = other ≢ Ok d

-- the canonical text of a drawing is read as no other drawing, and without a fault
pub refuted_text : CanonicalTextIsRead → (d : DrawingValue) (other : Result DrawingValue DrawFault) → KeepsDrawingLimits d
    → HasNoEnds d → Other other d → drawing_of (canonical_text d) ≡ other → ⊥
refuted_text law d other limits none differ is = differ (sym is ∙ law d limits none)

pub refuted_text2 : CanonicalText2IsRead → (drawn joined : DrawingValue) (other : Result DrawingValue DrawFault)
    → KeepsDrawingLimits drawn → HasNoEnds joined → IsJoinedFrom drawn joined → Other other joined
    → drawing_of (canonical_text2 drawn) ≡ other → ⊥
refuted_text2 law drawn joined other limits none from differ is = differ (sym is ∙ law drawn joined limits none from)

pub refuted_text3 : CanonicalText3IsRead → (drawn joined : DrawingValue) (other : Result DrawingValue DrawFault)
    → KeepsDrawingLimits drawn → HasOrderedEnds joined → IsJoinedFrom drawn joined → IsValidDrawing joined → Other other joined
    → drawing_of (canonical_text3 (with_ends_of drawn joined)) ≡ other → ⊥
refuted_text3 law drawn joined other limits ordered from valid differ is =
    differ (sym is ∙ law drawn joined limits ordered from valid)

pub refuted_drawn_text : DrawnTextIsRead → (drawn joined : DrawingValue) (other : Result DrawingValue DrawFault)
    → KeepsDrawingLimits drawn → HasOrderedEnds joined → IsJoinedFrom drawn joined → IsValidDrawing joined → Other other joined
    → drawing_of (drawn_text (with_ends_of drawn joined)) ≡ other → ⊥
refuted_drawn_text law drawn joined other limits ordered from valid differ is =
    differ (sym is ∙ law drawn joined limits ordered from valid)

-- its lines are read as they were drawn, and in no other version
pub refuted_lines2 : CanonicalText2KeepsLines → (d : DrawingValue) (other : Result DrawnLines DrawFault) → KeepsDrawingLimits d
    → HasNoEnds d → other ≢ Ok (record { version = version.Two; drawing = d; ends = [] })
    → lines_of (canonical_text2 d) ≡ other → ⊥
refuted_lines2 law d other limits none differ is = differ (sym is ∙ law d limits none)

pub refuted_lines3 : CanonicalText3KeepsLines → (drawn joined : DrawingValue) (other : Result DrawingValue DrawFault)
    → KeepsDrawingLimits drawn → IsJoinedFrom drawn joined → IsValidDrawing joined
    → Other other (record drawn { starts = []; ends = [] })
    → drawing_as_drawn (canonical_text3 (with_ends_of drawn joined)) ≡ other → ⊥
refuted_lines3 law drawn joined other limits from valid differ is = differ (sym is ∙ law drawn joined limits from valid)

pub refuted_drawn_lines : DrawnTextKeepsLines → (drawn joined : DrawingValue) (other : Result DrawingValue DrawFault)
    → KeepsDrawingLimits drawn → HasNoEnds drawn → IsJoinedFrom drawn joined → IsValidDrawing joined → Other other drawn
    → drawing_as_drawn (drawn_text (with_ends_of drawn joined)) ≡ other → ⊥
refuted_drawn_lines law drawn joined other limits none from valid differ is =
    differ (sym is ∙ law drawn joined limits none from valid)

-- no text has a start before one of an earlier block, nor such an end
pub refuted_start_order : TextsOrderEnds → (text : List ℕ) (d : DrawingValue) → drawing_of text ≡ Ok d
    → d.starts ≡ later_spot ∷ spot 0 0 ∷ [] → ⊥
refuted_start_order law text d read is =
    known_block_disorder (subst (λ (spots : List Spot). AreInBlockOrder spots) is (law text d read).starts)

pub refuted_end_order : TextsOrderEnds → (text : List ℕ) (d : DrawingValue) → drawing_of text ≡ Ok d
    → d.ends ≡ later_spot ∷ spot 0 0 ∷ [] → ⊥
refuted_end_order law text d read is =
    known_block_disorder (subst (λ (spots : List Spot). AreInBlockOrder spots) is (law text d read).ends)

-- no text defines a drawing without a block, or with two starts of a piece
pub refuted_no_block : TextsDefineValidDrawings → (text : List ℕ) → drawing_of text ≡ Ok default_drawing → ⊥
refuted_no_block law text read = known_no_block (law text default_drawing read)

pub refuted_two_starts : TextsDefineValidDrawings → (text : List ℕ)
    → drawing_of text ≡ Ok (crossed (spot 0 0 ∷ spot 20 0 ∷ []) []) → ⊥
refuted_two_starts law text read = known_two_starts (law text (crossed (spot 0 0 ∷ spot 20 0 ∷ []) []) read)

-- no text is read as version 2 as a drawing without a block, or one that isn't joined
pub refuted_as2 : TextsAs2DefineValidDrawings → (text : List ℕ) → (drawing_as2 text ≡ Ok default_drawing → ⊥)
    × (drawing_as2 text ≡ Ok drawn_cross → ⊥)
refuted_as2 law text = (λ read. known_no_block (law text default_drawing read).valid, λ read. unjoined (law text drawn_cross read).joined)
  where
    unjoined : is_joined drawn_cross ≡ true → ⊥
    unjoined joined = cc
