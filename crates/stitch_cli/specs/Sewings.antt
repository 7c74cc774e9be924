-- The commands `route` and `double`, which sew a drawing by walks over its pieces. Costs count
-- steps.
use Rattle.std.specs.Prelude.{◌≡◌, ℕ, ◌+◌, nat_lt, Bool, true, false, ◌&&◌, not, List, [], ◌∷◌, Option, Some, None, Result, Ok, Err, IsOkAnd, bytes_eq, if◌then◌else◌}
use Rattle.odd_cuts.specs.declared.certificate.PieceCert.{PieceCert}
use Rattle.command_words.specs.declared.names.RouteNames.{RouteNames}
use Rattle.design_model.specs.Acts.{acts_of}
use Rattle.format_traits.specs.Laws.{MovesWithin}
use Rattle.format_traits.specs.Meanings.{Meaning}
use Rattle.line_graph.specs.declared.pass.Pass.{Pass}
use Rattle.line_graph.specs.Drawings.{DrawingValue}
use Rattle.line_graph.specs.PieceGraphs.{piece_graph}
use Rattle.line_graph.specs.Runs.{Sews, sewn_design}
use Rattle.drawing_text.specs.declared.draw_fault.DrawFault.{DrawFault}
use Rattle.drawing_text.specs.DrawingText.{drawing_of}
use Rattle.program_shell.specs.Plans.{Plan, accepts, reads, refuses}
use Rattle.program_shell.specs.Products.{ProductValue, two_file_product}
use Rattle.program_texts.specs.DrawingTexts.{draw_fault_text, step_limit_text}
use Rattle.route_texts.specs.declared.sewing_reports.PieceReport.{PieceReport}
use Rattle.route_texts.specs.PieceReports.{piece_report}

-- The order of `route` or `double`: the drawing to read, the design and the certificate to write,
-- and the format of the design.
pub record SewingOrder : Type 0 where
  pub drawing : List ℕ
  pub out : List ℕ
  pub cert : List ℕ
  pub format : Meaning

-- The order with the names of the arguments and the format.
abbrev pub sewing_order : RouteNames → Meaning → SewingOrder
sewing_order names format = record {
  drawing = names.drawing.now;
  out = names.design.now;
  cert = names.cert.now;
  format = format;
}

-- The test whether three names are distinct.
abbrev pub names_differ : List ℕ → List ℕ → List ℕ → Bool
names_differ a b c = not (bytes_eq a b) && (not (bytes_eq a c) && not (bytes_eq b c))

-- The order, if the format is known and the names differ.
abbrev pub complete_sewing : (drawing out cert : List ℕ) → Option Meaning → Option SewingOrder
complete_sewing drawing out cert None = None
complete_sewing drawing out cert (Some format) = if names_differ drawing out cert
    then Some (record { drawing = drawing; out = out; cert = cert; format = format })
    else None

-- What sewing a drawing makes: the bytes of the design file, the text of the certificate, and the
-- report.
pub record SewnFiles : Type 0 where
  pub design_file : List ℕ
  pub cert_text : List ℕ
  pub report : List ℕ

-- The file of a sewn design: the bytes that the format writes for it. Read again, the file has an
-- end and sews the drawing by the walks, and no record moves farther than the limit of the format.
pub record IsSewnFile (format : Meaning) (d : DrawingValue) (walks : List (List Pass))
    (bytes : List ℕ) : Type 0 where
  pub written : format.writes (sewn_design d walks) ≡ Ok bytes
  pub read : IsOkAnd (format.reads bytes)
      (λ loaded. (loaded.ended ≡ true) × Sews d walks (acts_of loaded.design))
  pub within : MovesWithin format bytes

-- The lines of the report, as data: one for each piece and its certificate, numbered from `number`
-- on.
abbrev pub piece_reports : DrawingValue → ℕ → List (List ℕ) → List PieceCert → List PieceReport
piece_reports d number [] certs = []
piece_reports d number (lines ∷ pieces) [] = []
piece_reports d number (lines ∷ pieces) (cert ∷ certs) =
    piece_report (piece_graph d lines) number cert ∷ piece_reports d (number + 1) pieces certs

-- The product of a sewn drawing: the certificate, which is written first, the file of the design,
-- and the report. The three satisfy the relation `Sewn`.
pub record IsSewnProduct (Sewn : Meaning → DrawingValue → SewnFiles → Type 0)
    (order : SewingOrder) (d : DrawingValue) (product : ProductValue) : Type 0 where
  pub files : SewnFiles
  pub sewn : Sewn order.format d files
  pub made : product ≡ two_file_product (record { name = order.cert; content = files.cert_text })
      (record { name = order.out; content = files.design_file }) files.report

-- The plan for a drawing, given whether its step exceeds the limit of the format: then it is
-- refused, else accepted.
abbrev pub sewing_by_limit : (Meaning → DrawingValue → SewnFiles → Type 0) → SewingOrder
    → DrawingValue → Bool → Plan
sewing_by_limit Sewn order d true =
    refuses (step_limit_text order.drawing d.step order.format.limit order.format.ending)
sewing_by_limit Sewn order d false = accepts (IsSewnProduct Sewn order d)

-- The plan for a drawing: its step is compared with the limit of the format.
abbrev pub sewing_drawing : (Meaning → DrawingValue → SewnFiles → Type 0) → SewingOrder
    → DrawingValue → Plan
sewing_drawing Sewn order d = sewing_by_limit Sewn order d (nat_lt order.format.limit d.step)

-- The plan for the result of reading the drawing text: a drawing is sewn, and a fault is refused.
abbrev pub sewing_read : (Meaning → DrawingValue → SewnFiles → Type 0) → SewingOrder
    → Result DrawingValue DrawFault → Plan
sewing_read Sewn order (Ok d) = sewing_drawing Sewn order d
sewing_read Sewn order (Err fault) = refuses (draw_fault_text order.drawing fault)

-- The plan of `route` or `double`: read the drawing file, then sew the drawing.
abbrev pub sewing_plan : (Meaning → DrawingValue → SewnFiles → Type 0) → SewingOrder → Plan
sewing_plan Sewn order = reads order.drawing (λ bytes. sewing_read Sewn order (drawing_of bytes))

-- The files that `route` and `double` write, in the order of writing.
abbrev pub sewing_outputs : SewingOrder → List (List ℕ)
sewing_outputs order = order.cert ∷ order.out ∷ []
