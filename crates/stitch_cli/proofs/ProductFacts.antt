-- What a product has, read of each record: its report, its verdict, what is sewn.
use Rattle.std.proofs.Common.{◌≡◌, ℕ, List, Ok, Err, length, ap}
use Rattle.stitch_cli.proofs.Names.{DesignValue, Meaning, DrawingValue, PieceCert, walks_of, ProductValue, Sewing, summary_text, IsCheckFailed, IsCheckPassed, IsMigrated, IsSampleProduct, SampleOrder, summary_of, IsSewnFile, IsSewnProduct, SewingOrder, SewnFiles, IsSewnBy, step_count, IsVerdict}
use Rattle.format_traits.specs.declared.fault.WriteFault.TheVariants as write
use Rattle.program_texts.specs.MigrationReports.{migrate_report}
use Rattle.route_verdict.specs.declared.verdict.Verdict.TheVariants as verdict

-- the report of a migration has the numbers of lines and pieces, and the cost
pub known_migrated_report : (output : List ℕ) (d : DrawingValue) (product : ProductValue) (is : IsMigrated output d product)
    → product.report ≡ migrate_report (length d.lines) (length is.pieces) (step_count d.step d.lines)
known_migrated_report output d product is = ap (λ (p : ProductValue). p.report) is.made

-- the report of a sample is the summary of its walks
pub known_sample_report : (order : SampleOrder) (d : DrawingValue) (product : ProductValue) (is : IsSampleProduct order d product)
    → product.report ≡ summary_text (summary_of order.number d is.pieces is.certs)
known_sample_report order d product is = ap (λ (p : ProductValue). p.report) is.made

-- a passed check has the verdict yes, a failed one the verdict no with its reason
pub known_passed_verdict : (d : DrawingValue) (design : DesignValue) (certs : List PieceCert) (product : ProductValue)
    → IsCheckPassed d design certs product → IsVerdict d design certs verdict.Yes
known_passed_verdict d design certs product is = is.verdict

pub known_failed_verdict : (d : DrawingValue) (design : DesignValue) (certs : List PieceCert) (text : List ℕ)
    (is : IsCheckFailed d design certs text) → IsVerdict d design certs (verdict.No is.reason)
known_failed_verdict d design certs text is = is.verdict

-- the design of a route and of a double run is written, read again and within the limit
pub known_way_sewn : (way : Sewing) (m : Meaning) (d : DrawingValue) (files : SewnFiles) (is : IsSewnBy way m d files)
    → IsSewnFile m d (walks_of is.certs) files.design_file
known_way_sewn way m d files is = is.sewn

-- no format, no files
pub known_way_unwritten : (way : Sewing) (m : Meaning) (d : DrawingValue) (files : SewnFiles)
    → IsSewnBy way (record m { writes = λ design. Err (write.FloatTooLong 1) }) d files → ⊥
known_way_unwritten way m d files is = no_bytes files.design_file is.sewn.written
  where
    no_bytes : (bytes : List ℕ) → Err (write.FloatTooLong 1) ≡ Ok bytes → ⊥
    no_bytes bytes is = cc

-- what is written is what was sewn
pub known_sewn : (Sewn : Meaning → DrawingValue → SewnFiles → Type 0) (order : SewingOrder) (d : DrawingValue) (product : ProductValue)
    (is : IsSewnProduct Sewn order d product) → Sewn order.format d is.files
known_sewn Sewn order d product is = is.sewn
