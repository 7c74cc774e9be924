-- What the laws of drawings say of one drawing each.
use Rattle.std.proofs.Common.{◌≡◌, ℕ, ◌+◌, ◌<◌, ◌≤◌, true, false, List, [], ◌∷◌, All, Ok, Some, length, option_map, refl, arith, sym, codes, true≢false}
use Rattle.line_graph.proofs.DrawingNames.{AreClose, BlocksKeepGrowing, DrawingValue, EmptyDrawingsGrow, FinishedDrawingsAreValid, HasNoRepeat, IsGrowingDrawing, IsNeedlePoint, IsValidDrawing, IsValidJoinedDrawing, JoinedDrawingsAreValid, JoinedDrawingsStay, KeepsDrawingLimits, LabelsKeepGrowing, LinesKeepGrowing, Point, Spot, StepsKeepGrowing, WalkEndsKeepValid, all_sections, cost_of_line, empty_drawing, first_point, is_joined, joined_drawing, last_point, needles_of_line, points_of, step_count, with_new_block, with_new_line}
use Rattle.line_graph.specs.DrawingMakerInvariants.{IsHead}
use Rattle.line_graph.specs.JoinedDrawings.{SectionsKeepCost}
use Rattle.line_graph.specs.LineNeedles.{NeedlesLeadAlong}
use Rattle.line_graph.specs.DrawnWalks.{FittingWalksAreThreads, GivenPointsAreJunctions, IsThreadOver, PiecesAreValid, given_point}
use Rattle.line_graph.specs.PieceGraphs.{junction_number, junctions_of, piece_graph}
use Rattle.line_graph.specs.Pieces.{ArePieces}
use Rattle.line_graph.specs.PieceWalks.{is_fitting_walk}
use Rattle.line_graph.specs.ValidPieces.{IsValidPiece}
use Rattle.line_graph.specs.declared.pass.Pass.{Pass}
use Rattle.line_graph.proofs.NeedleFacts.{at, drawn}

-- needle points lead along each line, at most 200,000 steps, each another point within the step
pub known_needles : (d : DrawingValue) → NeedlesLeadAlong d → KeepsDrawingLimits d → 4 < length d.lines
    → (length (needles_of_line d 4) ≡ cost_of_line d 4 + 1) × (cost_of_line d 4 ≤ 200000)
    × (first_point (needles_of_line d 4) ≡ first_point (points_of d 4)) × (last_point (needles_of_line d 4) ≡ last_point (points_of d 4))
    × All IsNeedlePoint (needles_of_line d 4) × AreClose d.step (needles_of_line d 4) × HasNoRepeat (needles_of_line d 4)
known_needles d law keeps there = let are = law 4 keeps there in
    (are.count, are.few, are.along.first, are.along.last, are.along.in_range, are.along.close, are.along.moving)

pub known_apart : AreClose 10 (at 0 0 ∷ at 10 0 ∷ at 10 11 ∷ []) → ⊥
known_apart near = true≢false (sym near.1.0)

-- sections cost as much, and a joined drawing stays
pub known_sections : SectionsKeepCost → (d : DrawingValue) → d.step ≡ 10
    → step_count d.step (all_sections d.lines) ≡ step_count d.step d.lines
known_sections law d ten = law d

pub known_joined : JoinedDrawingsStay → (d : DrawingValue) → KeepsDrawingLimits d → is_joined d ≡ true → joined_drawing d ≡ Ok d
known_joined law d keeps joined = law d keeps joined

-- a growing drawing grows by a block, a line, another label, and before its first block by another step
abbrev blank : DrawingValue
blank = empty_drawing (codes "ab") 7

abbrev stroke : List Point
stroke = at 0 0 ∷ at 40 0 ∷ []

pub known_blank : EmptyDrawingsGrow → IsHead (codes "ab") 7 → IsGrowingDrawing blank
known_blank law head = law (codes "ab") 7 head

pub known_block : BlocksKeepGrowing → IsGrowingDrawing blank → IsGrowingDrawing (with_new_block blank 255)
known_block law grows = law blank 255 grows (omega arith)

pub known_line : LinesKeepGrowing → IsGrowingDrawing (with_new_block blank 255)
    → IsGrowingDrawing (with_new_line (with_new_block blank 255) stroke)
known_line law grows = law (with_new_block blank 255) stroke grows

pub known_label : LabelsKeepGrowing → (d : DrawingValue) → IsGrowingDrawing d → IsGrowingDrawing (record d { label = codes "rose" })
known_label law d grows = law d (codes "rose") grows refl

pub known_step : StepsKeepGrowing → IsGrowingDrawing blank → IsGrowingDrawing (record blank { step = 2047 })
known_step law grows = law blank 2047 grows refl (omega arith) (omega arith)

-- once finished it is valid, once joined too, and with a start
abbrev finished : DrawingValue
finished = drawn 10 stroke

pub known_finished : FinishedDrawingsAreValid → IsGrowingDrawing finished → IsValidDrawing finished
known_finished law grows = law finished grows

pub known_valid_joined : JoinedDrawingsAreValid → IsValidDrawing finished → IsValidJoinedDrawing finished
known_valid_joined law valid = law finished valid

pub known_valid : (d : DrawingValue) → IsValidJoinedDrawing d → IsValidDrawing d × (is_joined d ≡ true)
known_valid d is = (is.valid, is.joined)

abbrev spot : Spot
spot = record { block = 0; at = at 40 0 }

pub known_walk_ends : WalkEndsKeepValid → IsValidJoinedDrawing finished
    → IsValidJoinedDrawing (record finished { starts = spot ∷ [] }) × IsValidJoinedDrawing (record finished { ends = spot ∷ [] })
known_walk_ends law valid = (law true finished spot valid, law false finished spot valid)

-- the pieces of a drawing are valid graphs, and their fitting walks are threads
pub known_pieces : PiecesAreValid → (d : DrawingValue) → KeepsDrawingLimits d → ArePieces d ((0 ∷ 2 ∷ []) ∷ (1 ∷ []) ∷ [])
    → IsValidPiece (piece_graph d (0 ∷ 2 ∷ [])) × IsValidPiece (piece_graph d (1 ∷ []))
known_pieces law d keeps are = let each = law d _ keeps are in (each 0 [] (omega arith), each 1 [] (omega arith))

pub known_threads : FittingWalksAreThreads → (d : DrawingValue) (lines : List ℕ) (walk : List Pass) → KeepsDrawingLimits d
    → All (λ line. line < length d.lines) lines → IsValidPiece (piece_graph d lines)
    → (is_fitting_walk (piece_graph d lines) walk ≡ true → IsThreadOver d lines walk)
    × (IsThreadOver d lines walk → is_fitting_walk (piece_graph d lines) walk ≡ true)
known_threads law d lines walk keeps there valid = let both = law d lines walk keeps there valid in (both.0, both.1)

-- the start and the end of a piece's graph are the junctions at the given points
pub known_given : GivenPointsAreJunctions → (d : DrawingValue) (lines : List ℕ)
    → (piece_graph d lines).start ≡ option_map (λ p. junction_number (junctions_of d lines) (Some p)) (given_point d lines d.starts)
known_given law d lines = law d lines d.starts
