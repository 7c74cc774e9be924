-- What the laws of these pictures say, of worked values and in other words.
use Rattle.std.proofs.Common.{◌≡◌, ◌≤◌, ◌<◌, ◌+◌, ◌*◌, ℕ, pos, true, false, Bool, not, List, [], ◌∷◌, ◌++◌, Option, Some, None, Ok, Err, filter, length, map, sum_by, arith, refl}
use Rattle.design_model.specs.declared.design.TheConstants.{MAX_COMMANDS}
use Rattle.drawing_picture.proofs.BandFacts.{at}
use Rattle.drawing_picture.proofs.Names.{AreSewn, Band, BandsShowLoads, Cut, DrawingValue, IsFirstFault, IsShownProof, KeepsDrawingLimits, LineValue, PieceCert, RightCertificatesAreSewn, band_length, certificate_reason, crosses, load_on, piece_graph, reason_before_acts, retraced_steps, tested_marks}
use Rattle.drawing_picture.specs.BandLaws.{ShowsLoad}
use Rattle.drawing_picture.specs.Bands.{bands_on}
use Rattle.drawing_picture.specs.CheckedProofs.{IsProofResult}
use Rattle.drawing_picture.specs.DrawingPictures.{IsDrawingPicture, picture_of_pieces}
use Rattle.drawing_picture.specs.DrawnLaws.{PathsShowSegments, segments_through}
use Rattle.drawing_picture.specs.LabelLaws.{AreApart, LabelsStandApart, SidesHaveLabels}
use Rattle.drawing_picture.specs.LabelOrders.{PlacedLabel, labels_of_side, placed_labels}
use Rattle.drawing_picture.specs.LinePaths.{path_text}
use Rattle.drawing_picture.specs.ProofPictures.{proof_of}
use Rattle.drawing_picture.specs.declared.certificate_check.ProofFault.TheVariants as fault
use Rattle.drawing_picture.specs.declared.grid.Grid.{Grid}
use Rattle.drawing_picture.specs.declared.label_order.Side.TheVariants as side
use Rattle.drawing_picture.specs.declared.labels.Label.{Label}
use Rattle.line_graph.specs.declared.edge.Edge.{Edge}
use Rattle.line_graph.specs.LineNeedles.{cost_of_line}
use Rattle.line_graph.specs.Pieces.{ArePieces}
use Rattle.line_graph.specs.Runs.{commands_after, runs_of, sewn_design}
use Rattle.odd_cuts.specs.Certificates.{walks_of}
use Rattle.picture_parts.specs.declared.sizes.PictureSize.{PictureSize}
use Rattle.picture_parts.specs.Paths.{move_text, straight_text}
use Rattle.route_verdict.specs.declared.verdict.Reason.{Reason}
use Rattle.route_verdict.specs.declared.verdict.Reason.TheVariants as reason
use Rattle.route_verdict.specs.declared.verdict.Verdict.TheVariants as verdict
use Rattle.route_verdict.specs.LeastRedwork.{IsLeastRedwork}
use Rattle.route_verdict.specs.SewingSteps.{AllDrawn}

-- A path goes to its first point, and from there through the others in order.
pub known_segments : PathsShowSegments → path_text (at 0 ∷ at 20 ∷ at 7 ∷ [])
    ≡ move_text (at 0) ++ (straight_text (at 20) ++ (straight_text (at 7) ++ []))
known_segments law = law (at 0) (at 20 ∷ at 7 ∷ [])

pub known_each_segment : segments_through (at 0) (at 20 ∷ at 7 ∷ [])
    ≡ record { from = at 0; to = at 20 } ∷ record { from = at 20; to = at 7 } ∷ []
known_each_segment = refl

abbrev label : Bool → ℕ → ℕ → Label
label is_piece number x = record { is_piece = is_piece; number = number; at = record { x = x; y = 60010 } }

abbrev grid : Grid
grid = record { step = 100; left = 30000; right = 30100; top = 30000; bottom = 30100 }

-- A piece and a line left of the middle of a grid, and a line right of it, in one row.
abbrev labels : List Label
labels = label false 1 60190 ∷ label true 1 60020 ∷ label false 2 60010 ∷ []

-- The two lines of the labels are on both sides together, each once.
pub known_sides : SidesHaveLabels
    → length (filter (λ (l : Label). not l.is_piece)
    (labels_of_side side.Left grid labels))
    + length (filter (λ (l : Label). not l.is_piece)
    (labels_of_side side.Right grid labels))
    ≡ 2
known_sides law = law grid labels (λ (l : Label). not l.is_piece)

-- Labels in one row come below each other, each once.
pub known_rows : LabelsStandApart
    → map (λ (p : PlacedLabel). p.label) (placed_labels 60200 60000 labels) ≡ labels
known_rows law = (law 60200 60000 labels).each

pub known_apart : LabelsStandApart → AreApart 60000 (placed_labels 60200 60000 labels)
known_apart law = (law 60200 60000 labels).apart

-- A row that is 47 below another one covers it, and so does one above the first that is free.
pub known_covered : (AreApart 60000 (record { label = label true 1 0; row = 60010 } ∷ record { label = label true 2 0; row = 60057 } ∷ [])
    → ⊥) × (AreApart 60000 (record { label = label true 1 0; row = 59999 } ∷ []) → ⊥)
known_covered = ((λ are. far are.1.0), λ are. high are.0)
  where
    far : 60058 ≤ 60057 → ⊥
    far h = omega (arith, h)

    high : 60000 ≤ 59999 → ⊥
    high h = omega (arith, h)

-- The bands on a line are those of the cuts that it leads out of, in order, as long as their weights.
pub known_shown_load : (d : DrawingValue) (cuts : List Cut) (line : ℕ) (e : Edge) → ShowsLoad d cuts line e
    → (map (λ (band : Band). band.cut) (bands_on d cuts line e) ≡ filter (λ (cut : Cut). crosses cut.members e) cuts)
    × (map band_length (bands_on d cuts line e) ≡ map (λ (cut : Cut). cut.weight) (filter (λ (cut : Cut). crosses cut.members e) cuts))
    × (sum_by band_length (bands_on d cuts line e) ≡ load_on cuts e)
    × (sum_by band_length (bands_on d cuts line e) ≤ 2 * cost_of_line d line)
known_shown_load d cuts line e shows = (shows.each, shows.weights, shows.load, shows.room)

pub known_loads : BandsShowLoads → (d : DrawingValue) (cuts : List Cut) (line : ℕ) (e : Edge) → KeepsDrawingLimits d
    → line < length d.lines → load_on cuts e ≤ 2 * cost_of_line d line → ShowsLoad d cuts line e
known_loads law = law

-- One certificate for no piece, and none for none.
pub known_reasons : (certificate_reason [] (record { retraced = 0; walk = []; cuts = [] } ∷ []) ≡ Some (reason.Pieces 1 0))
    × (certificate_reason [] [] ≡ None)
known_reasons = (refl, refl)

-- A reason that is an act comes after all certificates.
pub known_before_acts : map reason_before_acts (verdict.Yes ∷ verdict.No (reason.Acts 7) ∷ verdict.No (reason.Pieces 1 2)
    ∷ verdict.No (reason.Retraced 3 4 5) ∷ [])
    ≡ None ∷ None ∷ Some (reason.Pieces 1 2) ∷ Some (reason.Retraced 3 4 5) ∷ []
known_before_acts = refl

-- The first fault is over the pieces of the drawing.
pub known_first_fault : (d : DrawingValue) (certs : List PieceCert) (found : Option Reason) (is : IsFirstFault d certs found)
    → ArePieces d is.pieces × (certificate_reason (map (piece_graph d) is.pieces) certs ≡ found)
known_first_fault d certs found is = (is.pieces_are, is.is)

-- Certificates that can be sewn.
pub known_sewn : RightCertificatesAreSewn → (d : DrawingValue) (pieces : List (List ℕ)) (certs : List PieceCert) → KeepsDrawingLimits d
    → ArePieces d pieces → certificate_reason (map (piece_graph d) pieces) certs ≡ None
    → AllDrawn d certs × (length (commands_after 0 (runs_of d (walks_of certs))) ≤ MAX_COMMANDS)
    × IsLeastRedwork d (sewn_design d (walks_of certs)) certs
known_sewn law d pieces certs limits are none = let sewn = law d pieces certs limits are none in (sewn.drawn, sewn.room, sewn.least)

-- A proof that is shown is one, and its text is the picture of it.
pub known_shown : (d : DrawingValue) (certs : List PieceCert) (size : Option PictureSize) (text : List ℕ)
    (is : IsProofResult d certs size (Ok text)) → ArePieces d is.pieces
    × (certificate_reason (map (piece_graph d) is.pieces) certs ≡ None)
    × IsLeastRedwork d (sewn_design d (walks_of certs)) certs
    × (text ≡ proof_of d size (map (piece_graph d) is.pieces) certs)
known_shown d certs size text is = (is.pieces_are, is.right, is.least, is.shown)

-- One that is refused has that fault.
pub known_refused : (d : DrawingValue) (certs : List PieceCert) (size : Option PictureSize) (wrong : Reason)
    → IsProofResult d certs size (Err (fault.Wrong wrong)) → IsFirstFault d certs (Some wrong)
known_refused d certs size wrong is = is

-- The picture of a drawing is that of its pieces, with the lines as they are drawn.
pub known_drawn : (d : DrawingValue) (lines : List LineValue) (size : Option PictureSize) (text : List ℕ)
    (is : IsDrawingPicture d lines size text) → ArePieces d is.pieces
    × (text ≡ picture_of_pieces d size (map (piece_graph d) is.pieces) lines)
known_drawn d lines size text is = (is.pieces_are, is.shown)

-- Steps that are sewn again.
pub known_retraced : retraced_steps (record { retraced = 3; walk = []; cuts = [] } ∷ record { retraced = 4; walk = []; cuts = [] } ∷ []) ≡ 7
known_retraced = refl

-- Of junctions with 1, 2 and 3 ends the second is odd where a closing line leads from it to the third, which is even then.
pub known_tested : tested_marks (Some 2) (Some 1) 0 (at 0 ∷ at 1 ∷ at 2 ∷ []) (1 ∷ 2 ∷ 3 ∷ [])
    ≡ record { at = at 0; is_odd = true } ∷ record { at = at 1; is_odd = true } ∷ record { at = at 2; is_odd = false } ∷ []
known_tested = refl
