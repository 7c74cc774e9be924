-- The command `check`: does a design sew a drawing by the walks of a certificate, and does the
-- certificate prove that no walks cost less?
use Rattle.std.specs.Prelude.{◌≡◌, ℕ, List, ◌++◌, Option, Some, None, Result, Ok, Err, codes}
use Rattle.command_words.specs.declared.names.RouteNames.{RouteNames}
use Rattle.odd_cuts.specs.declared.certificate.PieceCert.{PieceCert}
use Rattle.design_model.specs.TextLines.{newline}
use Rattle.certificate_text.specs.ReadCertificates.{cert_of}
use Rattle.design_model.specs.Designs.{DesignValue}
use Rattle.drawing_text.specs.declared.draw_fault.DrawFault.{DrawFault}
use Rattle.drawing_text.specs.DrawingText.{drawing_of}
use Rattle.format_traits.specs.declared.fault.ReadFault.{ReadFault}
use Rattle.format_traits.specs.declared.loaded.Loaded.{Loaded}
use Rattle.format_traits.specs.Meanings.{Meaning}
use Rattle.line_graph.specs.Drawings.{DrawingValue}
use Rattle.route_verdict.specs.declared.verdict.Reason.{Reason}
use Rattle.route_verdict.specs.declared.verdict.Verdict.TheVariants as verdict
use Rattle.route_verdict.specs.LeastRedwork.{IsLeastRedwork}
use Rattle.route_verdict.specs.Verdicts.{IsVerdict}
use Rattle.program_shell.specs.Plans.{Plan, satisfies, reads, refuses}
use Rattle.program_shell.specs.Products.{ProductValue, report_product}
use Rattle.program_shell.specs.FileTexts.{read_fault_text}
use Rattle.program_inputs.specs.CertificateFiles.{bad_line_text}
use Rattle.program_texts.specs.DrawingTexts.{draw_fault_text}
use Rattle.route_texts.specs.Reasons.{reason_text}

-- The order of `check`: the drawing, the design and the certificate to read, and the format of the
-- design.
pub record CheckOrder : Type 0 where
  pub drawing : List ℕ
  pub file : List ℕ
  pub cert : List ℕ
  pub format : Meaning

-- The order with the names of the arguments and the format.
abbrev pub check_order : RouteNames → Meaning → CheckOrder
check_order names format = record {
  drawing = names.drawing.now;
  file = names.design.now;
  cert = names.cert.now;
  format = format;
}

-- The order, if the format is known.
abbrev pub complete_check : (drawing file cert : List ℕ) → Option Meaning → Option CheckOrder
complete_check drawing file cert None = None
complete_check drawing file cert (Some format) =
    Some (record { drawing = drawing; file = file; cert = cert; format = format })

-- A passed check: the verdict is yes, and the design is least redwork. The report is the line
-- `yes`.
pub record IsCheckPassed (d : DrawingValue) (design : DesignValue) (certs : List PieceCert)
    (product : ProductValue) : Type 0 where
  pub verdict : IsVerdict d design certs verdict.Yes
  pub least : IsLeastRedwork d design certs
  pub made : product ≡ report_product (codes "yes" ++ newline)

-- A failed check: the verdict is no, and the text names the reason.
pub record IsCheckFailed (d : DrawingValue) (design : DesignValue) (certs : List PieceCert)
    (text : List ℕ) : Type 0 where
  pub reason : Reason
  pub verdict : IsVerdict d design certs (verdict.No reason)
  pub is : text ≡ reason_text reason

-- The result of checking a design and a certificate against a drawing.
abbrev pub IsCheckResult : DrawingValue → DesignValue → List PieceCert
    → Result ProductValue (List ℕ)
    → Type 0
IsCheckResult d design certs (Ok product) = IsCheckPassed d design certs product
IsCheckResult d design certs (Err text) = IsCheckFailed d design certs text

-- The plan for the result of reading the certificate text: a certificate is checked, and a bad line
-- is refused.
abbrev pub check_cert : CheckOrder → DrawingValue → DesignValue → Result (List PieceCert) ℕ → Plan
check_cert order d design (Ok certs) = satisfies (IsCheckResult d design certs)
check_cert order d design (Err number) = refuses (bad_line_text order.cert number)

-- The plan for the result of reading the design: next the certificate is read, and a fault is
-- refused.
abbrev pub check_design : CheckOrder → DrawingValue → Result Loaded ReadFault → Plan
check_design order d (Ok loaded) = reads order.cert
    (λ bytes. check_cert order d loaded.design (cert_of bytes))
check_design order d (Err fault) = refuses (read_fault_text order.file fault)

-- The plan for the result of reading the drawing text: next the design is read, and a fault is
-- refused.
abbrev pub check_drawing : CheckOrder → Result DrawingValue DrawFault → Plan
check_drawing order (Ok d) = reads order.file
    (λ bytes. check_design order d (order.format.reads bytes))
check_drawing order (Err fault) = refuses (draw_fault_text order.drawing fault)

-- The plan of `check`: read the drawing, the design and the certificate, in this order.
abbrev pub check_plan : CheckOrder → Plan
check_plan order = reads order.drawing (λ bytes. check_drawing order (drawing_of bytes))
