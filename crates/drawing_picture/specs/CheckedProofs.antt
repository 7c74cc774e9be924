-- The check of a certificate against a drawing, before its proof is shown. Weights of cuts count
-- halves of a step, costs count steps.
use Rattle.std.specs.Prelude.{◌≡◌, ℕ, ◌≤◌, List, Option, Some, None, Result, Ok, Err, length, map}
use Rattle.design_model.specs.declared.design.TheConstants.{MAX_COMMANDS}
use Rattle.drawing_picture.specs.declared.certificate_check.ProofFault.{ProofFault}
use Rattle.drawing_picture.specs.declared.certificate_check.ProofFault.TheVariants as fault
use Rattle.drawing_picture.specs.ProofPictures.{proof_of}
use Rattle.line_graph.specs.Drawings.{DrawingValue, KeepsDrawingLimits}
use Rattle.line_graph.specs.PieceGraphs.{PieceValue, piece_graph}
use Rattle.line_graph.specs.Pieces.{ArePieces}
use Rattle.line_graph.specs.Runs.{commands_after, runs_of, sewn_design}
use Rattle.odd_cuts.specs.declared.certificate.PieceCert.{PieceCert}
use Rattle.odd_cuts.specs.Certificates.{walks_of}
use Rattle.odd_cuts.specs.Faults.{first_fault}
use Rattle.picture_parts.specs.declared.sizes.PictureSize.{PictureSize}
use Rattle.route_verdict.specs.declared.verdict.Reason.{Reason}
use Rattle.route_verdict.specs.declared.verdict.Reason.TheVariants as reason
use Rattle.route_verdict.specs.declared.verdict.Verdict.{Verdict}
use Rattle.route_verdict.specs.declared.verdict.Verdict.TheVariants as verdict
use Rattle.route_verdict.specs.LeastRedwork.{IsLeastRedwork}
use Rattle.route_verdict.specs.SewingSteps.{AllDrawn}
use Rattle.route_verdict.specs.Verdicts.{count_reason, pieces_reason}

-- The first fault of certificates, over the pieces of a drawing: another number of pieces, then the
-- first fault of a walk, of its retraced cost or of its cuts. The acts of a design are not tested.
abbrev pub certificate_reason : List PieceValue → List PieceCert → Option Reason
certificate_reason pieces certs = first_fault (count_reason (length certs) (length pieces))
    (pieces_reason 1 pieces certs)

-- The reason of a verdict, unless it is an act of the design.
abbrev pub reason_before_acts : Verdict → Option Reason
reason_before_acts verdict.Yes = None
reason_before_acts (verdict.No (reason.Pieces found drawn)) = Some (reason.Pieces found drawn)
reason_before_acts (verdict.No (reason.Walk piece wrong)) = Some (reason.Walk piece wrong)
reason_before_acts (verdict.No (reason.Retraced piece said found)) =
    Some (reason.Retraced piece said found)
reason_before_acts (verdict.No (reason.Cuts piece wrong)) = Some (reason.Cuts piece wrong)
reason_before_acts (verdict.No (reason.Acts number)) = None

-- The first fault of certificates for a drawing, or none.
pub record IsFirstFault (d : DrawingValue) (certs : List PieceCert) (found : Option Reason)
    : Type 0 where
  pub pieces : List (List ℕ)
  pub pieces_are : ArePieces d pieces
  pub is : certificate_reason (map (piece_graph d) pieces) certs ≡ found

-- The walks of certificates can be sewn: each pass follows a line, the design is within its limit,
-- and it is least redwork.
pub record AreSewn (d : DrawingValue) (certs : List PieceCert) : Type 0 where
  pub drawn : AllDrawn d certs
  pub room : length (commands_after 0 (runs_of d (walks_of certs))) ≤ MAX_COMMANDS
  pub least : IsLeastRedwork d (sewn_design d (walks_of certs)) certs

-- Certificates without a fault can be sewn, as least redwork.
abbrev pub RightCertificatesAreSewn : Type 0
RightCertificatesAreSewn = (d : DrawingValue) (pieces : List (List ℕ)) (certs : List PieceCert)
    → KeepsDrawingLimits d → ArePieces d pieces
    → certificate_reason (map (piece_graph d) pieces) certs ≡ None → AreSewn d certs

-- A proof that is shown, in true size or in another: the certificates have no fault, and their
-- walks are least.
pub record IsShownProof (d : DrawingValue) (certs : List PieceCert) (size : Option PictureSize)
    (text : List ℕ) : Type 0 where
  pub pieces : List (List ℕ)
  pub pieces_are : ArePieces d pieces
  pub right : certificate_reason (map (piece_graph d) pieces) certs ≡ None
  pub least : IsLeastRedwork d (sewn_design d (walks_of certs)) certs
  pub shown : text ≡ proof_of d size (map (piece_graph d) pieces) certs

-- The result of showing a proof: its picture, or the first fault of the certificates.
abbrev pub IsProofResult : DrawingValue → List PieceCert → Option PictureSize
    → Result (List ℕ) ProofFault → Type 0
IsProofResult d certs size (Ok text) = IsShownProof d certs size text
IsProofResult d certs size (Err (fault.Wrong wrong)) = IsFirstFault d certs (Some wrong)
IsProofResult d certs size (Err fault.Memory) = Unit {0}
