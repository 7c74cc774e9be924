-- Each record of a product or a refusal as all its parts: without one of them these facts fail.
use Rattle.std.proofs.Common.{◌≡◌, ◌⊎◌, ℕ, true, List, Ok, Err, IsOkAnd, codes, length, inl, inr, ◌++◌}
use Rattle.format_traits.specs.Laws.{MovesWithin, RoundTrips}
use Rattle.format_traits.specs.declared.fault.WriteFault.{WriteFault}
use Rattle.design_model.specs.Acts.{acts_of}
use Rattle.design_model.specs.Counts.{counts_of}
use Rattle.drawing_text.specs.CanonicalTexts.{canonical_text, canonical_text2}
use Rattle.line_graph.specs.Pieces.{ArePieces}
use Rattle.line_graph.specs.declared.pass.Pass.{Pass}
use Rattle.program_texts.specs.DesignReports.{written_report}
use Rattle.program_texts.specs.DesignTexts.{write_fault_text}
use Rattle.program_texts.specs.MigrationReports.{migrate_report}
use Rattle.route_texts.specs.Reasons.{reason_text}
use Rattle.route_verdict.specs.LeastRedwork.{IsLeastRedwork}
use Rattle.route_verdict.specs.declared.verdict.Reason.{Reason}
use Rattle.route_verdict.specs.declared.verdict.Verdict.TheVariants as verdict
use Rattle.stitch_cli.proofs.Names.{AllZip, DesignValue, DrawingValue, IsCheckFailed, IsCheckPassed, IsLeastPieceRoute, IsMigrated, IsPieceSewn, IsSampleProduct, IsSewnBy, IsSewnFile, IsSewnProduct, IsVerdict, Loaded, Meaning, PieceCert, ProductValue, RewriteOrder, SampleOrder, Sewing, SewingOrder, Sews, SewnFiles, cert_of, certificate_text, change_text, newline, not_changed, not_written, one_file_product, piece_reports, report_product, sewing_report, sewn_design, step_count, summary_of, summary_text, two_file_product, walks_of}
use Rattle.stitch_cli.specs.ChangedDesigns.{BecomesAll}
use Rattle.stitch_cli.specs.Rewrites.{IsNotRewritten, IsRewritten}
use Rattle.stitch_cli.specs.declared.change_faults.ChangeFault.{ChangeFault}

-- a design is changed as requested, and the file of that is written, read again and within the limit; the report is on it
pub whole_rewritten : (order : RewriteOrder) (loaded : Loaded) (product : ProductValue) → IsRewritten order loaded product
    → (design : DesignValue) × (out : List ℕ) × BecomesAll order.target.limit order.changes loaded.design (Ok design)
    × (order.target.writes design ≡ Ok out) × RoundTrips order.target design out × MovesWithin order.target out
    × (product ≡ one_file_product order.output out (written_report (counts_of design)))
whole_rewritten order loaded product is = (is.design, is.out, is.becomes, is.written, is.again, is.within, is.made)

-- or a change is refused, or the changed design can't be written, each with its own text
pub whole_unwritten : (order : RewriteOrder) (loaded : Loaded) (text : List ℕ) → IsNotRewritten order loaded text
    → ((fault : ChangeFault) × (text ≡ change_text order.input order.output fault)
    × BecomesAll order.target.limit order.changes loaded.design (Err fault))
    ⊎ ((design : DesignValue) × (fault : WriteFault) × (text ≡ write_fault_text order.output order.target.limit fault)
    × BecomesAll order.target.limit order.changes loaded.design (Ok design) × (order.target.writes design ≡ Err fault))
whole_unwritten order loaded text (not_changed fault is becomes) = inl (fault, is, becomes)
whole_unwritten order loaded text (not_written design fault is becomes refuses) = inr (design, fault, is, becomes, refuses)

-- a check that passes, and one that fails
pub whole_passed : (d : DrawingValue) (design : DesignValue) (certs : List PieceCert) (product : ProductValue)
    → IsCheckPassed d design certs product → IsVerdict d design certs verdict.Yes × IsLeastRedwork d design certs
    × (product ≡ report_product (codes "yes" ++ newline))
whole_passed d design certs product is = (is.verdict, is.least, is.made)

pub whole_failed : (d : DrawingValue) (design : DesignValue) (certs : List PieceCert) (text : List ℕ) → IsCheckFailed d design certs text
    → (reason : Reason) × IsVerdict d design certs (verdict.No reason) × (text ≡ reason_text reason)
whole_failed d design certs text is = (is.reason, is.verdict, is.is)

-- a migrated drawing is written as version 2, with its numbers of lines and pieces and its cost
pub whole_migrated : (output : List ℕ) (d : DrawingValue) (product : ProductValue) → IsMigrated output d product
    → (pieces : List (List ℕ)) × ArePieces d pieces × (product ≡ one_file_product output (canonical_text2 d)
    (migrate_report (length d.lines) (length pieces) (step_count d.step d.lines)))
whole_migrated output d product is = (is.pieces, is.pieces_are, is.made)

-- a sample is written, and its report is on least routes of its pieces
pub whole_sample : (order : SampleOrder) (d : DrawingValue) (product : ProductValue) → IsSampleProduct order d product
    → (pieces : List (List ℕ)) × (certs : List PieceCert) × ArePieces d pieces × AllZip (IsLeastPieceRoute d) pieces certs
    × (product ≡ one_file_product order.drawing (canonical_text d) (summary_text (summary_of order.number d pieces certs)))
whole_sample order d product is = (is.pieces, is.certs, is.pieces_are, is.best, is.made)

-- a drawing is sewn by walks over its pieces: the file, the certificate that reads so, and the report are of these walks
pub whole_way : (way : Sewing) (m : Meaning) (d : DrawingValue) (files : SewnFiles) → IsSewnBy way m d files
    → (pieces : List (List ℕ)) × (certs : List PieceCert) × ArePieces d pieces × AllZip (IsPieceSewn way d) pieces certs
    × IsSewnFile m d (walks_of certs) files.design_file × (files.cert_text ≡ certificate_text certs)
    × (cert_of files.cert_text ≡ Ok certs) × (files.report ≡ sewing_report way (piece_reports d 1 pieces certs))
whole_way way m d files is =
    (is.pieces, is.certs, is.pieces_are, is.each, is.sewn, is.cert_is, is.cert_reads, is.report_is)

-- a sewn file is written, reads as a complete design that sews the drawing, and is within the limit
pub whole_file : (m : Meaning) (d : DrawingValue) (walks : List (List Pass)) (bytes : List ℕ) → IsSewnFile m d walks bytes
    → (m.writes (sewn_design d walks) ≡ Ok bytes)
    × IsOkAnd (m.reads bytes) (λ loaded. (loaded.ended ≡ true) × Sews d walks (acts_of loaded.design)) × MovesWithin m bytes
whole_file m d walks bytes is = (is.written, is.read, is.within)

-- a product has the certificate first and then the design, and the report
pub whole_sewn : (Sewn : Meaning → DrawingValue → SewnFiles → Type 0) (order : SewingOrder) (d : DrawingValue) (product : ProductValue)
    → IsSewnProduct Sewn order d product
    → (files : SewnFiles) × Sewn order.format d files
    × (product ≡ two_file_product (record { name = order.cert; content = files.cert_text })
    (record { name = order.out; content = files.design_file }) files.report)
whole_sewn Sewn order d product is = (is.files, is.sewn, is.made)
