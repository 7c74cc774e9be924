-- The picture of a drawing and its certificate.
use Rattle.std.specs.Prelude.{◌≡◌, ℕ, List, [], Some, Result, Ok, Err}
use Rattle.certificate_text.specs.ReadCertificates.{cert_of}
use Rattle.drawing_picture.specs.CheckedProofs.{IsFirstFault, IsShownProof}
use Rattle.drawing_text.specs.declared.draw_fault.DrawFault.{DrawFault}
use Rattle.drawing_text.specs.DrawingText.{drawing_of}
use Rattle.line_graph.specs.Drawings.{DrawingValue}
use Rattle.odd_cuts.specs.declared.certificate.PieceCert.{PieceCert}
use Rattle.program_inputs.specs.CertificateFiles.{bad_line_text}
use Rattle.program_shell.specs.Plans.{Plan, reads, refuses, satisfies}
use Rattle.program_shell.specs.Products.{ProductValue, one_file_product}
use Rattle.program_texts.specs.DrawingTexts.{draw_fault_text}
use Rattle.route_texts.specs.Reasons.{reason_text}
use Rattle.route_verdict.specs.declared.verdict.Reason.{Reason}
use Rattle.picture_commands.specs.Words.{ProofOrder}

-- A proof that is shown: the product is its picture.
pub record IsProofPicture (order : ProofOrder) (d : DrawingValue) (certs : List PieceCert)
    (product : ProductValue) : Type 0 where
  pub text : List ℕ
  pub shown : IsShownProof d certs order.size text
  pub made : product ≡ one_file_product order.output text []

-- A certificate that proves nothing of the drawing: the text names its first fault.
pub record IsNoProof (d : DrawingValue) (certs : List PieceCert) (text : List ℕ) : Type 0 where
  pub reason : Reason
  pub found : IsFirstFault d certs (Some reason)
  pub is : text ≡ reason_text reason

-- The result of showing a proof.
abbrev pub IsProofShown : ProofOrder → DrawingValue → List PieceCert
    → Result ProductValue (List ℕ) → Type 0
IsProofShown order d certs (Ok product) = IsProofPicture order d certs product
IsProofShown order d certs (Err text) = IsNoProof d certs text

-- The plan for the result of reading the certificate: it is shown, and a bad line is refused.
abbrev pub proof_cert : ProofOrder → DrawingValue → Result (List PieceCert) ℕ → Plan
proof_cert order d (Ok certs) = satisfies (IsProofShown order d certs)
proof_cert order d (Err number) = refuses (bad_line_text order.cert number)

-- The plan for the result of reading the drawing: next the certificate is read, and a fault is
-- refused.
abbrev pub proof_drawing : ProofOrder → Result DrawingValue DrawFault → Plan
proof_drawing order (Ok d) = reads order.cert (λ bytes. proof_cert order d (cert_of bytes))
proof_drawing order (Err fault) = refuses (draw_fault_text order.drawing fault)

-- The plan of an order: the drawing is read, then its certificate.
abbrev pub proof_plan : ProofOrder → Plan
proof_plan order = reads order.drawing (λ bytes. proof_drawing order (drawing_of bytes))
