-- What no command makes: each word of a product is refuted by a wrong one.
use Rattle.std.proofs.Common.{◌≡◌, ◌++◌, ◌∷◌, [], ◌<◌, ℕ, pos, true, false, List, Ok, Err, codes, ap, length, refl, subst, arith}
use Rattle.stitch_cli.proofs.Names.{AllZip, certificate_text, cert_of, acts_of, acts_without_numbers, DesignValue, newline, Meaning, DrawingValue, Sews, PieceCert, ProductValue, Sewing, sewing_report, PieceReport, IsCheckFailed, IsCheckPassed, IsMigrated, IsSampleProduct, SampleOrder, IsSewnFile, IsSewnProduct, SewingOrder, SewnFiles, IsSewnBy, empty_design, OutputValue, IsDoubled, piece_lines}
use Rattle.design_model.specs.declared.command.Command.TheVariants as command
use Rattle.format_traits.specs.declared.fault.WriteFault.TheVariants as write
use Rattle.line_graph.specs.Pieces.{ArePieces}
use Rattle.route_verdict.specs.declared.sewing_ways.Sewing.TheVariants as ways
use Rattle.route_texts.specs.Reasons.{reason_text}
use Rattle.route_verdict.specs.declared.verdict.Reason.{Reason}
use Rattle.route_verdict.specs.declared.verdict.Reason.TheVariants as reason

-- a format that reads each file as that design
abbrev reading : Meaning → DesignValue → Meaning
reading m design = record m { reads = λ bytes. Ok (record { design = design; ended = true }) }

-- a design of one needle
abbrev stitched : DesignValue
stitched = record { label = []; threads = []; commands = command.Stitch (record { x = pos 3; y = pos 4 }) ∷ [] }

-- The acts that count are those of the file, read again.
some_acts : (d : DrawingValue) → Sews d [] (acts_of stitched) → ⊥
some_acts d is = let none : acts_without_numbers (acts_of stitched) ≡ [] = is in cc

pub known_other_acts : (m : Meaning) (d : DrawingValue) → IsSewnFile (reading m stitched) d [] [] → ⊥
known_other_acts m d is = some_acts d is.read.1

-- The file has an end.
pub known_without_end : (m : Meaning) (d : DrawingValue)
    → IsSewnFile (record m { reads = λ bytes. Ok (record { design = empty_design; ended = false }) }) d [] [] → ⊥
known_without_end m d is = not_true is.read.0
  where
    not_true : false ≡ true → ⊥
    not_true is = cc

-- No record moves farther than the limit.
pub known_beyond_limit : (m : Meaning) (d : DrawingValue)
    → IsSewnFile (record m { limit = 121; moves = λ bytes. (record { x = pos 122; y = pos 0 }) ∷ [] }) d [] [] → ⊥
known_beyond_limit m d is = cc (is.within)

-- The format writes the file.
pub known_unwritten_file : (m : Meaning) (d : DrawingValue)
    → IsSewnFile (record m { writes = λ design. Err (write.FloatTooLong 1) }) d [] [] → ⊥
known_unwritten_file m d is = no_bytes [] is.written
  where
    no_bytes : (bytes : List ℕ) → Err (write.FloatTooLong 1) ≡ Ok bytes → ⊥
    no_bytes bytes is = cc

-- The certificate's text is never empty, and an empty text is read as no certificate.
no_text : (certs : List PieceCert) → [] ≡ certificate_text certs → ⊥
no_text certs is = cc

no_certs : (certs : List PieceCert) → cert_of [] ≡ Ok certs → ⊥
no_certs certs is = cc

-- a report has a line of totals
ends_some : (front back : List ℕ) (byte : ℕ) → [] ≡ front ++ byte ∷ back → ⊥
ends_some [] back byte is = cc
ends_some (first ∷ front) back byte is = cc

no_report : (way : Sewing) (pieces : List PieceReport) → [] ≡ sewing_report way pieces → ⊥
no_report way pieces is = ends_some (piece_lines way pieces) _ _ is

-- files with nothing in them
abbrev no_files : SewnFiles
no_files = record { design_file = []; cert_text = []; report = [] }

pub known_sewn_without_certificate : (way : Sewing) (m : Meaning) (d : DrawingValue) → IsSewnBy way m d no_files → ⊥
known_sewn_without_certificate way m d is = no_text is.certs is.cert_is

pub known_sewn_with_bad_certificate : (way : Sewing) (m : Meaning) (d : DrawingValue) → IsSewnBy way m d no_files → ⊥
known_sewn_with_bad_certificate way m d is = no_certs is.certs is.cert_reads

pub known_sewn_without_report : (way : Sewing) (m : Meaning) (d : DrawingValue) → IsSewnBy way m d no_files → ⊥
known_sewn_without_report way m d is = no_report way _ is.report_is

-- a piece without a certificate
unmatched : (P : List ℕ → PieceCert → Type 0) (pieces : List (List ℕ)) (certs : List PieceCert) → AllZip P pieces certs
    → pieces ≡ (0 ∷ []) ∷ [] → certs ≡ [] → ⊥
unmatched P [] certs each some none = cc
unmatched P (piece ∷ pieces) [] each some none = each
unmatched P (piece ∷ pieces) (cert ∷ certs) each some none = cc

pub known_sewn_without_walk : (way : Sewing) (m : Meaning) (d : DrawingValue) (files : SewnFiles) (is : IsSewnBy way m d files)
    → is.pieces ≡ (0 ∷ []) ∷ [] → is.certs ≡ [] → ⊥
known_sewn_without_walk way m d files is some none = unmatched _ is.pieces is.certs is.each some none

-- a line in no piece
uncovered : (d : DrawingValue) (pieces : List (List ℕ)) → 0 < length d.lines → ArePieces d pieces → pieces ≡ [] → ⊥
uncovered d [] line are none = omega (arith, (are.covered 0 line).1)
uncovered d (piece ∷ pieces) line are none = cc

pub known_sewn_without_pieces : (way : Sewing) (m : Meaning) (d : DrawingValue) (files : SewnFiles) → 0 < length d.lines
    → (is : IsSewnBy way m d files) → is.pieces ≡ [] → ⊥
known_sewn_without_pieces way m d files line is none = uncovered d is.pieces line is.pieces_are none

-- a double run has no cuts: one cut over one piece
abbrev with_cut : PieceCert
with_cut = record { retraced = 0; walk = []; cuts = record { weight = 1; members = 0 ∷ [] } ∷ [] }

cut_free : (d : DrawingValue) (pieces : List (List ℕ)) (certs : List PieceCert) → AllZip (IsDoubled d) pieces certs
    → certs ≡ with_cut ∷ [] → ⊥
cut_free d pieces [] each is = cc
cut_free d [] (cert ∷ certs) each is = each
cut_free d (piece ∷ pieces) (cert ∷ certs) each is =
    let same : cert ≡ with_cut = cc in no_cut (subst (λ (c : PieceCert). c.cuts ≡ []) same each.0.cuts)
  where
    no_cut : with_cut.cuts ≡ [] → ⊥
    no_cut is = cc

pub known_double_with_cut : (m : Meaning) (d : DrawingValue) (files : SewnFiles) (is : IsSewnBy ways.Double m d files)
    → is.certs ≡ with_cut ∷ [] → ⊥
known_double_with_cut m d files is some = cut_free d is.pieces is.certs is.each some

-- a product with no outputs and no report
abbrev nothing : ProductValue
nothing = record { outputs = []; report = [] }

no_output : (o : OutputValue) (rest : List OutputValue) → [] ≡ o ∷ rest → ⊥
no_output o rest is = cc

no_yes : [] ≡ codes "yes" ++ newline → ⊥
no_yes is = cc

pub known_sewn_nothing : (Sewn : Meaning → DrawingValue → SewnFiles → Type 0) (order : SewingOrder) (d : DrawingValue)
    → IsSewnProduct Sewn order d nothing → ⊥
known_sewn_nothing Sewn order d is = no_output _ _ (ap (λ (p : ProductValue). p.outputs) is.made)

-- A sample has a best walk over each of its pieces.
pub known_sample_without_walk : (order : SampleOrder) (d : DrawingValue) (product : ProductValue)
    (is : IsSampleProduct order d product) → is.pieces ≡ (0 ∷ []) ∷ [] → is.certs ≡ [] → ⊥
known_sample_without_walk order d product is some none = unmatched _ is.pieces is.certs is.best some none

pub known_sample_without_pieces : (order : SampleOrder) (d : DrawingValue) (product : ProductValue) → 0 < length d.lines
    → (is : IsSampleProduct order d product) → is.pieces ≡ [] → ⊥
known_sample_without_pieces order d product line is none = uncovered d is.pieces line is.pieces_are none

pub known_sample_of_nothing : (order : SampleOrder) (d : DrawingValue) → IsSampleProduct order d nothing → ⊥
known_sample_of_nothing order d is = no_output _ _ (ap (λ (p : ProductValue). p.outputs) is.made)

-- A migration counts the pieces of its drawing, and writes it.
pub known_migrated_without_pieces : (output : List ℕ) (d : DrawingValue) (product : ProductValue) → 0 < length d.lines
    → (is : IsMigrated output d product) → is.pieces ≡ [] → ⊥
known_migrated_without_pieces output d product line is none = uncovered d is.pieces line is.pieces_are none

pub known_migrated_nothing : (output : List ℕ) (d : DrawingValue) → IsMigrated output d nothing → ⊥
known_migrated_nothing output d is = no_output _ _ (ap (λ (p : ProductValue). p.outputs) is.made)

-- A passed check has a least walk over each piece, and prints `yes`.
no_cert : (P : List ℕ → PieceCert → Type 0) (pieces : List (List ℕ)) → AllZip P pieces [] → pieces ≡ []
no_cert P [] each = refl
no_cert P (piece ∷ pieces) each = absurd each

pub known_passed_without_walk : (d : DrawingValue) (design : DesignValue) (product : ProductValue) → 0 < length d.lines
    → IsCheckPassed d design [] product → ⊥
known_passed_without_walk d design product line is =
    uncovered d is.least.pieces line is.least.pieces_are (no_cert _ is.least.pieces is.least.threads)

pub known_passed_in_silence : (d : DrawingValue) (design : DesignValue) (certs : List PieceCert)
    → IsCheckPassed d design certs nothing → ⊥
known_passed_in_silence d design certs is = no_yes (ap (λ (p : ProductValue). p.report) is.made)

-- A failed check names its reason.
no_reason : (why : Reason) → [] ≡ reason_text why → ⊥
no_reason (reason.Pieces found drawn) is = cc
no_reason (reason.Walk piece fault) is = cc
no_reason (reason.Retraced piece said found) is = cc
no_reason (reason.Cuts piece fault) is = cc
no_reason (reason.Acts number) is = cc

pub known_failed_in_silence : (d : DrawingValue) (design : DesignValue) (certs : List PieceCert) → IsCheckFailed d design certs [] → ⊥
known_failed_in_silence d design certs is = no_reason is.reason is.is
