-- Verdicts on designs and their certificates. Pieces and acts are numbered from 1. Weights of cuts
-- count halves of a step, costs count steps.
use Rattle.std.specs.Prelude.{◌≡◌, ◌↔◌, ℕ, ◌+◌, ◌-◌, ◌*◌, ◌<◌, ◌^◌, ◌==◌, true, List, [], ◌∷◌, Option, Some, None, length, map, if◌then◌else◌}
use Rattle.std.specs.List.{AllZip}
use Rattle.odd_cuts.specs.declared.certificate.PieceCert.{PieceCert}
use Rattle.odd_cuts.specs.declared.faults.CutFault.{CutFault}
use Rattle.odd_cuts.specs.declared.faults.WalkFault.{WalkFault}
use Rattle.odd_cuts.specs.CutFaults.{HaveNumberedMembers, cuts_fault}
use Rattle.odd_cuts.specs.Cuts.{total_weight}
use Rattle.odd_cuts.specs.Faults.{first_fault}
use Rattle.odd_cuts.specs.Packings.{IsPacking}
use Rattle.odd_cuts.specs.WalkFaults.{walk_fault}
use Rattle.design_model.specs.Acts.{acts_of, acts_without_numbers}
use Rattle.design_model.specs.Designs.{DesignValue}
use Rattle.line_graph.specs.Drawings.{DrawingValue}
use Rattle.line_graph.specs.PieceGraphs.{PieceValue, piece_graph}
use Rattle.line_graph.specs.Pieces.{ArePieces}
use Rattle.line_graph.specs.PieceWalks.{IsLeastWalk, is_fitting_walk, piece_cost, walk_cost}
use Rattle.line_graph.specs.Runs.{Sews, runs_of, sewn_acts}
use Rattle.route_verdict.specs.declared.verdict.Reason.{Reason}
use Rattle.route_verdict.specs.declared.verdict.Reason.TheVariants as reason
use Rattle.route_verdict.specs.declared.verdict.Verdict.{Verdict}
use Rattle.route_verdict.specs.declared.verdict.Verdict.TheVariants as verdict
use Rattle.route_verdict.specs.ActOrder.{first_differing_act}
use Rattle.odd_cuts.specs.Certificates.{walks_of}

-- The reason that the certificate has another number of pieces than the drawing, if it has.
abbrev pub count_reason : (found drawn : ℕ) → Option Reason
count_reason found drawn = if found == drawn then None else Some (reason.Pieces found drawn)

-- The reason that the walk of the piece with the given number has a fault, if it has one.
abbrev pub walk_reason : ℕ → Option WalkFault → Option Reason
walk_reason number None = None
walk_reason number (Some fault) = Some (reason.Walk number fault)

-- The cost of a walk above that of the lines of its piece.
abbrev pub cost_above : PieceValue → PieceCert → ℕ
cost_above p cert = walk_cost p cert.walk - piece_cost p

-- The reason that the retraced cost in the certificate isn't that of the walk, if so.
abbrev pub retraced_reason : (number said found : ℕ) → Option Reason
retraced_reason number said found =
    if said == found then None else Some (reason.Retraced number said found)

-- The reason that the cuts of the piece with the given number have a fault, if they have one.
abbrev pub cuts_reason : ℕ → Option CutFault → Option Reason
cuts_reason number None = None
cuts_reason number (Some fault) = Some (reason.Cuts number fault)

-- The first fault in the certificate of a piece: in its walk, its retraced cost or its cuts.
abbrev pub piece_reason : PieceValue → ℕ → PieceCert → Option Reason
piece_reason p number cert = first_fault (walk_reason number (walk_fault p cert.walk))
    (first_fault (retraced_reason number cert.retraced (cost_above p cert))
    (cuts_reason number (cuts_fault p cert.retraced cert.cuts)))

-- The first fault in the certificates of pieces in order, where the first piece has the given
-- number.
abbrev pub pieces_reason : ℕ → List PieceValue → List PieceCert → Option Reason
pieces_reason number [] certs = None
pieces_reason number (p ∷ pieces) [] = None
pieces_reason number (p ∷ pieces) (cert ∷ certs) =
    first_fault (piece_reason p number cert) (pieces_reason (number + 1) pieces certs)

-- The reason that the act with the given number isn't the one that sews the walks, if there is such
-- an act.
abbrev pub acts_reason : Option ℕ → Option Reason
acts_reason None = None
acts_reason (Some number) = Some (reason.Acts number)

-- The number of the first act of a design that isn't the one that sews the walks.
abbrev pub difference_of : DrawingValue → DesignValue → List PieceCert → Option ℕ
difference_of d design certs =
    first_differing_act 1 (acts_without_numbers (acts_of design))
    (sewn_acts (runs_of d (walks_of certs)))

-- The first fault: in the number of pieces, in the certificate of a piece, or in an act of the
-- design.
abbrev pub reason_of : DrawingValue → List PieceValue → DesignValue → List PieceCert → Option Reason
reason_of d pieces design certs = first_fault (count_reason (length certs) (length pieces))
    (first_fault (pieces_reason 1 pieces certs) (acts_reason (difference_of d design certs)))

-- The verdict: no with a reason if there is one, else yes.
abbrev pub verdict_of_reason : Option Reason → Verdict
verdict_of_reason None = verdict.Yes
verdict_of_reason (Some wrong) = verdict.No wrong

-- The verdict on a design and certificates, over the pieces of a drawing.
abbrev pub verdict_of : DrawingValue → List (List ℕ) → DesignValue → List PieceCert → Verdict
verdict_of d pieces design certs = verdict_of_reason
    (reason_of d (map (piece_graph d) pieces) design certs)

-- A correct certificate of a piece. The walk is a fitting walk. The retraced cost is the cost of
-- the walk above that of the lines, and the cuts are a packing whose total is twice that.
pub record IsCorrectPieceCert (p : PieceValue) (cert : PieceCert) : Type 0 where
  pub fitting : is_fitting_walk p cert.walk ≡ true
  pub retraced : walk_cost p cert.walk ≡ piece_cost p + cert.retraced
  pub packing : IsPacking p cert.cuts
  pub total : total_weight cert.cuts ≡ 2 * cert.retraced

-- The certificates of all pieces are correct, and the design sews the drawing by their walks.
pub record IsCorrectRoute (d : DrawingValue) (pieces : List (List ℕ)) (design : DesignValue)
    (certs : List PieceCert) : Type 0 where
  pub each : AllZip (λ lines cert. IsCorrectPieceCert (piece_graph d lines) cert) pieces certs
  pub sews : Sews d (walks_of certs) (acts_of design)

-- The verdict over the pieces of a drawing. The verdict is yes exactly where all is correct, and
-- then each walk is least.
pub record IsVerdictOver (d : DrawingValue) (pieces : List (List ℕ)) (design : DesignValue)
    (certs : List PieceCert) (given : Verdict) : Type 0 where
  pub pieces_are : ArePieces d pieces
  pub is : given ≡ verdict_of d pieces design certs
  pub exact : (given ≡ verdict.Yes) ↔ IsCorrectRoute d pieces design certs
  pub least : given ≡ verdict.Yes
      → AllZip (λ lines cert. IsLeastWalk (piece_graph d lines) cert.walk) pieces certs

-- The verdict on a design and certificates: the verdict over the pieces of the drawing.
pub record IsVerdict (d : DrawingValue) (design : DesignValue) (certs : List PieceCert)
    (given : Verdict) : Type 0 where
  pub pieces : List (List ℕ)
  pub is : IsVerdictOver d pieces design certs given

-- The lists of a certificate are not too long, and no member of a cut is the greatest index.
pub record HasShortLists (cert : PieceCert) : Type 0 where
  pub walk : length cert.walk < 2 ^ 32 - 1
  pub cuts : length cert.cuts < 2 ^ 32 - 1
  pub numbered : HaveNumberedMembers cert.cuts
