-- What the plans of stitch_picture make and refuse, and its requests.
use Rattle.std.proofs.Common.{◌≡◌, ℕ, List, [], ◌∷◌, Option, Some, None, Ok, Err, codes, refl}
use Rattle.certificate_text.specs.ReadCertificates.{cert_of}
use Rattle.design_picture.specs.Pictures.{picture_of}
use Rattle.design_picture.specs.PlainPictures.{plain_picture_of}
use Rattle.drawing_picture.specs.CheckedProofs.{IsFirstFault, IsShownProof}
use Rattle.drawing_picture.specs.DrawingPictures.{IsDrawingPicture}
use Rattle.drawing_text.specs.DrawingLines.{lines_read}
use Rattle.drawing_text.specs.DrawingText.{drawing_of}
use Rattle.drawing_text.specs.declared.draw_fault.DrawFault.{DrawFault}
use Rattle.drawing_text.specs.declared.lines_read.LinesRead.{LinesRead}
use Rattle.format_traits.specs.Meanings.{Meaning}
use Rattle.format_traits.specs.declared.fault.ReadFault.{ReadFault}
use Rattle.format_traits.specs.declared.loaded.Loaded.{Loaded}
use Rattle.line_graph.specs.Drawings.{DrawingValue}
use Rattle.odd_cuts.specs.declared.certificate.PieceCert.{PieceCert}
use Rattle.outside_io.specs.Files.{Files}
use Rattle.picture_commands.specs.DrawnPictures.{DrawnOrder, drawn_read}
use Rattle.picture_commands.specs.Mistakes.{misfit_text, mistaken_word}
use Rattle.picture_commands.specs.Orders.{PictureOrder, drawing, picture_program_after, proving, showing, telling}
use Rattle.picture_commands.specs.Pictures.{DesignPictureOrder, picture_read}
use Rattle.picture_commands.specs.Proofs.{proof_cert, proof_drawing}
use Rattle.picture_commands.specs.Usage.{picture_usage}
use Rattle.picture_commands.specs.Words.{ProofOrder}
use Rattle.picture_commands.specs.declared.mistake.Mistake.{Mistake}
use Rattle.program_inputs.specs.CertificateFiles.{bad_line_text}
use Rattle.program_shell.specs.FileTexts.{read_fault_text}
use Rattle.program_shell.specs.Plans.{IsInputContent, Makes, Refuses}
use Rattle.program_shell.specs.Products.{ProductValue, one_file_product, report_product}
use Rattle.program_texts.specs.CompanionUsage.{usage_with}
use Rattle.program_texts.specs.DrawingTexts.{draw_fault_text}
use Rattle.program_texts.specs.MistakenWords.{mistaken}
use Rattle.route_texts.specs.Reasons.{reason_text}
use Rattle.route_verdict.specs.declared.verdict.Reason.{Reason}

-- what an order of the program makes
abbrev MakesOf : PictureOrder → Option Files → ProductValue → Type 0
MakesOf order files product = Makes ((picture_program_after None).plan order) files product

-- a design that is read so has its picture, with its hoop and its size, or a plain one on a colour, and no report
abbrev reading : Meaning → Loaded → Meaning
reading m loaded = record m { reads = λ bytes. Ok loaded }

pub known_picture : (m : Meaning) (loaded : Loaded) (order : DesignPictureOrder) (files : Option Files) (product : ProductValue)
    → MakesOf (showing (record order { format = reading m loaded; cloth = None })) files product
    → product ≡ one_file_product order.output (picture_of loaded.design order.hoop order.size) []
known_picture m loaded order files product makes = makes.2

pub known_plain_picture : (m : Meaning) (loaded : Loaded) (order : DesignPictureOrder) (digits : List ℕ) (files : Option Files)
    (product : ProductValue) → MakesOf (showing (record order { format = reading m loaded; cloth = Some digits })) files product
    → (bytes : List ℕ) × IsInputContent files order.input bytes
    × (product ≡ one_file_product order.output (plain_picture_of loaded.design digits order.size) [])
known_plain_picture m loaded order digits files product makes = makes

-- a file with a fault has no picture
pub known_no_design : (m : Meaning) (why : ReadFault) (order : DesignPictureOrder) (files : Option Files) (product : ProductValue)
    → MakesOf (showing (record order { format = record m { reads = λ bytes. Err why } })) files product → ⊥
known_no_design m why order files product makes = makes.2

pub known_design_refused : (order : DesignPictureOrder) (why : ReadFault) (files : Option Files) (text : List ℕ)
    → Refuses (picture_read order (Err why)) files text → text ≡ read_fault_text order.input why
known_design_refused order why files text refuses = refuses

-- the picture of a drawing shows its joined lines and those that were drawn
pub known_drawn : (order : DrawnOrder) (files : Option Files) (product : ProductValue) → MakesOf (drawing order) files product
    → (bytes : List ℕ) × IsInputContent files order.drawing bytes × Makes (drawn_read order (lines_read bytes)) files product
known_drawn order files product makes = makes

pub known_drawn_read : (order : DrawnOrder) (read : LinesRead) (files : Option Files) (product : ProductValue)
    → Makes (drawn_read order (Ok read)) files product
    → (text : List ℕ) × IsDrawingPicture read.drawing read.drawn.drawing.lines order.size text
    × (product ≡ one_file_product order.output text [])
known_drawn_read order read files product is = (is.text, is.shown, is.made)

pub known_not_drawn : (order : DrawnOrder) (why : DrawFault) (files : Option Files) (product : ProductValue) (text : List ℕ)
    → (Makes (drawn_read order (Err why)) files product → ⊥)
    × (Refuses (drawn_read order (Err why)) files text → text ≡ draw_fault_text order.drawing why)
known_not_drawn order why files product text = (λ makes. makes, λ refuses. refuses)

-- the picture of a proof is that of the drawing and the certificate that were read, in this order
pub known_proof : (order : ProofOrder) (files : Option Files) (product : ProductValue) → MakesOf (proving order) files product
    → (bytes : List ℕ) × IsInputContent files order.drawing bytes × Makes (proof_drawing order (drawing_of bytes)) files product
known_proof order files product makes = makes

pub known_proof_drawing : (order : ProofOrder) (d : DrawingValue) (why : DrawFault) (files : Option Files) (product : ProductValue)
    (text : List ℕ) → (Makes (proof_drawing order (Ok d)) files product
    → (bytes : List ℕ) × IsInputContent files order.cert bytes × Makes (proof_cert order d (cert_of bytes)) files product)
    × (Refuses (proof_drawing order (Err why)) files text → text ≡ draw_fault_text order.drawing why)
known_proof_drawing order d why files product text = (λ makes. makes, λ refuses. refuses)

-- a proof is shown, or refused with its first fault or its bad line
pub known_shown : (order : ProofOrder) (d : DrawingValue) (certs : List PieceCert) (files : Option Files) (product : ProductValue)
    → Makes (proof_cert order d (Ok certs)) files product
    → (text : List ℕ) × IsShownProof d certs order.size text × (product ≡ one_file_product order.output text [])
known_shown order d certs files product is = (is.text, is.shown, is.made)

pub known_not_shown : (order : ProofOrder) (d : DrawingValue) (certs : List PieceCert) (files : Option Files) (text : List ℕ)
    → Refuses (proof_cert order d (Ok certs)) files text
    → (reason : Reason) × IsFirstFault d certs (Some reason) × (text ≡ reason_text reason)
known_not_shown order d certs files text is = (is.reason, is.found, is.is)

pub known_bad_line : (order : ProofOrder) (d : DrawingValue) (files : Option Files) (text : List ℕ)
    → Refuses (proof_cert order d (Err 3)) files text → text ≡ bad_line_text order.cert 3
known_bad_line order d files text refuses = refuses

-- a text is printed, and no file written; a picture is the one file of its order
pub known_told : (files : Option Files) (product : ProductValue) → MakesOf (telling (codes "a")) files product
    → product ≡ report_product (codes "a")
known_told files product makes = makes

pub known_outputs : (shown : DesignPictureOrder) (drawn : DrawnOrder) (proved : ProofOrder)
    → ((picture_program_after None).outputs (showing shown) ≡ shown.output ∷ [])
    × ((picture_program_after None).outputs (drawing drawn) ≡ drawn.output ∷ [])
    × ((picture_program_after None).outputs (proving proved) ≡ proved.output ∷ [])
    × ((picture_program_after None).outputs (telling (codes "a")) ≡ [])
known_outputs shown drawn proved = (refl, refl, refl, refl)

-- the program's name, and its usage text after a mistake
pub known_program : (mistake : Mistake) → ((picture_program_after (Some (mistaken_word mistake))).name ≡ codes "stitch_picture")
    × ((picture_program_after (Some (mistaken_word mistake))).usage
    ≡ usage_with (codes "stitch_picture") picture_usage (Some (mistaken mistake.word.now (misfit_text mistake.why))))
known_program mistake = (refl, refl)
