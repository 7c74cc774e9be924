-- What the theorems on edited drawings exclude. Pieces are numbered from 1, lines and blocks from 0.
use Rattle.std.proofs.Common.{◌≡◌, ◌≢◌, ◌∙◌, ℕ, ◌+◌, ◌<◌, ◌≤◌, ◌==◌, true, false, List, [], ◌∷◌, ◌++◌, length, map, get_or, slice_index, Result, Ok, All, IsPermutation, refl, sym, arith}
use Rattle.drawing_edits.proofs.Names.{list_any, IsNonDecreasing, Point, DrawingValue, KeepsDrawingLimits, Spot, LineValue, ArePieces, first_line, HasOrderedEnds, DrawKind, with_spot, EditsKeepEndsByBlock, PlacedEndsAreKept, RedrawnHasEnds, OrdersKeepLines, PiecesComeBefore, lines_in_order, lines_outside, order_with_piece, pieces_in_order, end_placed, drawn_lines, redrawn, LinesInOrderAreDrawn, LinesWithinLimitsAreDrawn, ValidDrawingsAreRedrawn}
use Rattle.drawing_edits.specs.declared.drawing_edit.DrawingEdit.{DrawingEdit}
use Rattle.drawing_edits.specs.EditedDrawings.{edited_drawing}
use Rattle.drawing_edits.specs.PieceOrders.{PiecesInOrderArePieces}
use Rattle.line_graph.specs.GrowingLimits.{IsValidJoinedDrawing}

-- the numbered pieces are the pieces of each drawing within its limits
pub refuted_pieces : PiecesInOrderArePieces → (d : DrawingValue) → KeepsDrawingLimits d
    → (ArePieces d (pieces_in_order d) → ⊥) → ⊥
refuted_pieces law d limits never = never (law d limits)

-- no piece begins with the first line of the piece numbered before it
pub refuted_numbers : PiecesInOrderArePieces → (d : DrawingValue) → KeepsDrawingLimits d → (k : ℕ)
    → k + 1 < length (map first_line (pieces_in_order d))
    → slice_index (map first_line (pieces_in_order d)) k ≡ slice_index (map first_line (pieces_in_order d)) (k + 1) → ⊥
refuted_numbers law d limits k there is = absurd (omega (arith, is, (law d limits).ordered k there))

-- a piece that is put before one of a smaller number changes no line and leaves none out
pub refuted_later_piece : OrdersKeepLines → (q more : ℕ) (d : DrawingValue) (lines : List LineValue)
    → lines_in_order (q + (more + 1)) q d ≡ Ok lines → (IsPermutation d.lines lines → ⊥) → ⊥
refuted_later_piece law q more d lines is never = never (law (q + (more + 1)) q d lines is)

-- a piece that is put before one of a greater number changes no line and leaves none out
pub refuted_earlier_piece : OrdersKeepLines → (p more : ℕ) (d : DrawingValue) (lines : List LineValue)
    → lines_in_order p (p + (more + 1)) d ≡ Ok lines → (IsPermutation d.lines lines → ⊥) → ⊥
refuted_earlier_piece law p more d lines is never = never (law p (p + (more + 1)) d lines is)

-- a piece of two lines, of which one is after the line that it is put before
pub applied_before : PiecesComeBefore → order_with_piece (1 ∷ 4 ∷ []) 2 5 ≡ 0 ∷ 1 ∷ 4 ∷ 2 ∷ 3 ∷ []
applied_before law = law (1 ∷ 4 ∷ []) 2 5 (omega arith) refl

-- lines come in no other order after a piece is put before one of them
pub refuted_before : PiecesComeBefore → (piece : List ℕ) (line count : ℕ) (other : List ℕ) → line < count
    → list_any (λ n. n == line) piece ≡ false
    → other ≢ (lines_outside piece 0 line ++ (piece ++ (line ∷ lines_outside piece (line + 1) count)))
    → order_with_piece piece line count ≡ other → ⊥
refuted_before law piece line count other there outside differ is = differ (sym is ∙ law piece line count there outside)

-- a drawing that is drawn again has no other starts
pub refuted_starts : RedrawnHasEnds → (d new : DrawingValue) (other : List Spot) → redrawn d ≡ Ok new
    → other ≢ d.starts → new.starts ≡ other → ⊥
refuted_starts law d new other is differ starts = differ (sym starts ∙ (law d new is).starts)

-- a drawing that is drawn again has no other ends
pub refuted_ends : RedrawnHasEnds → (d new : DrawingValue) (other : List Spot) → redrawn d ≡ Ok new
    → other ≢ d.ends → new.ends ≡ other → ⊥
refuted_ends law d new other is differ ends = differ (sym ends ∙ (law d new is).ends)

-- a start that is placed is at its point, and the ends stay
pub applied_start : PlacedEndsAreKept → (p : Point) (d new : DrawingValue) → end_placed true p d ≡ Ok new
    → (block : ℕ) × (new.starts ≡ with_spot (record { block = block; at = p }) d.starts) × (new.ends ≡ d.ends)
applied_start law p d new placed =
    let is = law true p d new placed in (is.block, is.kept.starts, is.kept.ends)

-- an end that is placed is at its point, and the starts stay
pub applied_end : PlacedEndsAreKept → (p : Point) (d new : DrawingValue) → end_placed false p d ≡ Ok new
    → (block : ℕ) × (new.ends ≡ with_spot (record { block = block; at = p }) d.ends) × (new.starts ≡ d.starts)
applied_end law p d new placed =
    let is = law false p d new placed in (is.block, is.kept.ends, is.kept.starts)

-- no edit leaves a start before one of an earlier block
pub refuted_start_order : EditsKeepEndsByBlock → (one : DrawingEdit) (d new : DrawingValue) → edited_drawing one d ≡ Ok new
    → HasOrderedEnds d → (i j block : ℕ) → i ≤ j → j < length (map (λ (spot : Spot). spot.block) new.starts)
    → get_or (map (λ (spot : Spot). spot.block) new.starts) i block
    ≡ get_or (map (λ (spot : Spot). spot.block) new.starts) j block + 1 → ⊥
refuted_start_order law one d new edited ordered i j block before there is =
    absurd (omega (arith, is, (law one d new edited ordered).starts i j block before there))

-- no edit leaves an end before one of an earlier block
pub refuted_end_order : EditsKeepEndsByBlock → (one : DrawingEdit) (d new : DrawingValue) → edited_drawing one d ≡ Ok new
    → HasOrderedEnds d → (i j block : ℕ) → i ≤ j → j < length (map (λ (spot : Spot). spot.block) new.ends)
    → get_or (map (λ (spot : Spot). spot.block) new.ends) i block
    ≡ get_or (map (λ (spot : Spot). spot.block) new.ends) j block + 1 → ⊥
refuted_end_order law one d new edited ordered i j block before there is =
    absurd (omega (arith, is, (law one d new edited ordered).ends i j block before there))

-- lines within the limits have no other result when they are drawn again: neither a fault nor another drawing
pub refuted_limited : LinesWithinLimitsAreDrawn → (d : DrawingValue) (other : Result DrawingValue DrawKind)
    → KeepsDrawingLimits d → other ≢ Ok (record d { starts = []; ends = [] }) → drawn_lines d ≡ other → ⊥
refuted_limited law d other limits differ is = differ (sym is ∙ law d limits)

-- lines in the order of their blocks are drawn as no other drawing
pub refuted_drawn : LinesInOrderAreDrawn → (d drawn other : DrawingValue) → IsNonDecreasing (map (λ line. line.block) d.lines)
    → All (λ line. line.block < length d.threads) d.lines → drawn_lines d ≡ Ok drawn
    → other ≢ record d { starts = []; ends = [] } → drawn ≡ other → ⊥
refuted_drawn law d drawn other ordered there is differ same = differ (sym same ∙ law d drawn ordered there is)

-- a valid joined drawing has no other result when it is drawn again
pub refuted_redrawn : ValidDrawingsAreRedrawn → (d : DrawingValue) (other : Result DrawingValue DrawKind)
    → IsValidJoinedDrawing d → other ≢ Ok d → redrawn d ≡ other → ⊥
refuted_redrawn law d other valid differ is = differ (sym is ∙ law d valid)
