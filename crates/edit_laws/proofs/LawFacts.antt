-- What the theorems exclude.
use Rattle.std.proofs.Common.{◌≡◌, ◌≢◌, ◌∙◌, ◌+◌, ◌*◌, ◌<◌, ℕ, ℤ, pos, negsuc, List, [], ◌∷◌, length, map, sum_by, get_or, Result, Ok, refl, sym, arith, if◌then◌else◌}
use Rattle.edit_laws.proofs.Names.{shift_point, turn_point, Point, DrawingValue, KeepsDrawingLimits, needle_points, needles_of_walk, cost_of_line, Pass, ArePieces, KeepsCosts, MirrorKeepsCosts, TurnKeepsCosts, moved_drawing, shifted, shifted_drawing, turned_drawing}
use Rattle.design_edits.specs.declared.axis.Axis.{Axis}
use Rattle.design_edits.specs.declared.motion.Motion.{Motion}
use Rattle.design_edits.specs.Motions.{motion_map}
use Rattle.design_model.specs.Designs.{DesignValue}
use Rattle.drawing_edits.specs.declared.drawing_edit.DrawingEdit.TheVariants as edit
use Rattle.drawing_edits.specs.declared.edit_fault.EditFault.{EditFault}
use Rattle.drawing_edits.specs.EditedDrawings.{edited_drawing}
use Rattle.drawing_edits.specs.MovedDrawings.{mirrored_drawing}
use Rattle.edit_laws.specs.MoveLaws.{MovesAreExact}
use Rattle.edit_laws.specs.ShiftLaws.{ShiftKeepsLeastRedwork, ShiftKeepsYes, ShiftMovesNeedles}
use Rattle.line_graph.specs.GrowingLimits.{IsValidJoinedDrawing}
use Rattle.odd_cuts.specs.declared.certificate.PieceCert.{PieceCert}
use Rattle.odd_cuts.specs.declared.cut.Cut.{Cut}
use Rattle.odd_cuts.specs.DrawnCuts.{IsOddOver, IsPackingOver, leads_out}
use Rattle.route_verdict.specs.declared.verdict.Verdict.TheVariants as verdict
use Rattle.route_verdict.specs.LeastRedwork.{IsLeastRedwork}
use Rattle.route_verdict.specs.Verdicts.{IsVerdict}

-- the point with those numbers
abbrev at : ℤ → ℤ → Point
at x y = record { x = x; y = y }

-- three steps of at most 10, whose ends are rounded down, and the same three after a shift
abbrev sloped : List Point
sloped = at (pos 0) (pos 0) ∷ at (pos 25) (negsuc 9) ∷ []

pub known_needle_points : (needle_points 10 sloped
    ≡ at (pos 0) (pos 0) ∷ at (pos 8) (negsuc 3) ∷ at (pos 16) (negsuc 6) ∷ at (pos 25) (negsuc 9) ∷ [])
    × (needle_points 10 (map (shift_point (negsuc 2) (pos 5)) sloped)
    ≡ at (negsuc 2) (pos 5) ∷ at (pos 5) (pos 1) ∷ at (pos 13) (negsuc 1) ∷ at (pos 22) (negsuc 4) ∷ [])
    -- a turn rounds to another side: needle points turn with the line only in number
    × (needle_points 10 (map (turn_point 2) sloped)
    ≡ at (pos 0) (pos 0) ∷ at (negsuc 8) (pos 3) ∷ at (negsuc 16) (pos 6) ∷ at (negsuc 24) (pos 10) ∷ [])
known_needle_points = (refl, refl, refl)

-- no turn makes a line cost one more
pub known_turned_cost : TurnKeepsCosts → (quarters : ℕ) (d : DrawingValue) (line : ℕ)
    → cost_of_line (turned_drawing quarters d) line ≡ cost_of_line d line + 1 → ⊥
known_turned_cost law quarters d line is = absurd (omega (arith, is, (law quarters d).lines line))

-- the needle points of the shifted line are those worked out above, by the theorem
pub applied_shift : ShiftMovesNeedles → needle_points 10 (map (shift_point (negsuc 2) (pos 5)) sloped)
    ≡ at (negsuc 2) (pos 5) ∷ at (pos 5) (pos 1) ∷ at (pos 13) (negsuc 1) ∷ at (pos 22) (negsuc 4) ∷ []
applied_shift law = law (negsuc 2) (pos 5) 10 sloped

-- a shifted line has no other needle points, and not as many others
pub refuted_shift : ShiftMovesNeedles → (dx dy : ℤ) (step : ℕ) (points other : List Point)
    → other ≢ map (shift_point dx dy) (needle_points step points)
    → needle_points step (map (shift_point dx dy) points) ≡ other → ⊥
refuted_shift law dx dy step points other differ is = differ (sym is ∙ law dx dy step points)

-- no line of a drawing that keeps the costs costs one more
pub refuted_line : (d moved : DrawingValue) → KeepsCosts d moved → (line : ℕ)
    → cost_of_line moved line ≡ cost_of_line d line + 1 → ⊥
refuted_line d moved kept line is = absurd (omega (arith, is, kept.lines line))

-- no walk over a drawing that keeps the costs has one needle point more
pub refuted_walk : (d moved : DrawingValue) → KeepsCosts d moved → (walk : List Pass)
    → length (needles_of_walk moved walk) ≡ length (needles_of_walk d walk) + 1 → ⊥
refuted_walk d moved kept walk is = absurd (omega (arith, is, kept.walks walk))

-- the pieces of a drawing are those of each one that keeps its costs
pub refuted_pieces : (d moved : DrawingValue) → KeepsCosts d moved → (pieces : List (List ℕ)) → ArePieces d pieces
    → (ArePieces moved pieces → ⊥) → ⊥
refuted_pieces d moved kept pieces are never = never (kept.pieces pieces are)

-- no line of the moved drawing has a load above two halves for each of its steps
pub refuted_load : (d moved : DrawingValue) → KeepsCosts d moved → (lines : List ℕ) (cuts : List Cut)
    → IsPackingOver d lines cuts → (i line : ℕ) → i < length lines
    → sum_by (λ (cut : Cut). if leads_out moved lines cut (get_or lines i line) then cut.weight else 0) cuts
    ≡ 2 * cost_of_line moved (get_or lines i line) + 1 → ⊥
refuted_load d moved kept lines cuts packing i line there is =
    absurd (omega (arith, is, (kept.packings lines cuts packing).loads i line there))

-- no cut of a packing is even in the moved drawing
pub refuted_even : (d moved : DrawingValue) → KeepsCosts d moved → (lines : List ℕ) (cuts : List Cut)
    → IsPackingOver d lines cuts → (i : ℕ) (cut : Cut) → i < length cuts → (IsOddOver moved lines (get_or cuts i cut) → ⊥) → ⊥
refuted_even d moved kept lines cuts packing i cut there never =
    never ((kept.packings lines cuts packing).odd i cut there)

-- each turn keeps lines, walks, pieces and packings
pub refuted_turn : TurnKeepsCosts → (quarters : ℕ) (d : DrawingValue) → (KeepsCosts d (turned_drawing quarters d) → ⊥) → ⊥
refuted_turn law quarters d never = never (law quarters d)

-- each mirroring keeps lines, walks, pieces and packings
pub refuted_mirroring : MirrorKeepsCosts → (a : Axis) (d : DrawingValue) → (KeepsCosts d (mirrored_drawing a d) → ⊥) → ⊥
refuted_mirroring law a d never = never (law a d)

-- no packing of a drawing is lost when the drawing is turned
pub refuted_turned_packing : TurnKeepsCosts → (quarters : ℕ) (d : DrawingValue) (lines : List ℕ) (cuts : List Cut)
    → IsPackingOver d lines cuts → (IsPackingOver (turned_drawing quarters d) lines cuts → ⊥) → ⊥
refuted_turned_packing law quarters d lines cuts packing never = never ((law quarters d).packings lines cuts packing)

-- no packing of a drawing is lost when the drawing is mirrored
pub refuted_mirrored_packing : MirrorKeepsCosts → (a : Axis) (d : DrawingValue) (lines : List ℕ) (cuts : List Cut)
    → IsPackingOver d lines cuts → (IsPackingOver (mirrored_drawing a d) lines cuts → ⊥) → ⊥
refuted_mirrored_packing law a d lines cuts packing never = never ((law a d).packings lines cuts packing)

-- certificates that show least redwork show it of the design and the drawing after each shift
pub refuted_shifted_redwork : ShiftKeepsLeastRedwork → (dx dy : ℤ) (d : DrawingValue) (design : DesignValue)
    (certs : List PieceCert) → IsLeastRedwork d design certs
    → (IsLeastRedwork (shifted_drawing dx dy d) (shifted dx dy design) certs → ⊥) → ⊥
refuted_shifted_redwork law dx dy d design certs is never = never (law dx dy d design certs is)

-- a yes stays a yes after each shift within the limits
pub refuted_shifted_yes : ShiftKeepsYes → (dx dy : ℤ) (d : DrawingValue) (design : DesignValue) (certs : List PieceCert)
    → KeepsDrawingLimits d → KeepsDrawingLimits (shifted_drawing dx dy d) → IsVerdict d design certs verdict.Yes
    → (IsVerdict (shifted_drawing dx dy d) (shifted dx dy design) certs verdict.Yes → ⊥) → ⊥
refuted_shifted_yes law dx dy d design certs limits moved judged never = never (law dx dy d design certs limits moved judged)

-- a valid joined drawing that is moved within the limits has no other result: neither a fault nor another drawing
pub refuted_move : MovesAreExact → (motion : Motion) (d : DrawingValue) (other : Result DrawingValue EditFault)
    → IsValidJoinedDrawing d → KeepsDrawingLimits (moved_drawing (motion_map motion) d)
    → other ≢ Ok (moved_drawing (motion_map motion) d) → edited_drawing (edit.Move motion) d ≡ other → ⊥
refuted_move law motion d other is keeps differ result = differ (sym result ∙ law motion d is keeps)
