-- The program decides, and its picture is the file that it writes.
use Rattle.std.proofs.Common.{◌≡◌, [], ◌∷◌, ℕ, List, Option, Some, None, Result, Ok, ap, map, sym, ◌∙◌}
use Rattle.certificate_text.specs.ReadCertificates.{cert_of}
use Rattle.drawing_picture.specs.CheckedProofs.{certificate_reason}
use Rattle.drawing_text.specs.DrawingLines.{lines_read}
use Rattle.drawing_text.specs.DrawingText.{drawing_of}
use Rattle.line_graph.specs.Drawings.{DrawingValue}
use Rattle.line_graph.specs.PieceGraphs.{piece_graph}
use Rattle.line_graph.specs.UniquePieces.{PiecesAreUnique}
use Rattle.odd_cuts.specs.declared.certificate.PieceCert.{PieceCert}
use Rattle.program_texts.specs.MistakenWords.{MistakenWord}
use Rattle.program_texts.specs.CompanionUsage.{usage_with}
use Rattle.outside_io.specs.Views.{SinkView, StoreView}
use Rattle.program_shell.specs.ExactPlans.{IsSoundProgram}
use Rattle.program_shell.specs.FinishedRuns.{FinishesRun}
use Rattle.program_shell.specs.ProgramRuns.{RunEnds}
use Rattle.program_shell.specs.Products.{ProductValue}
use Rattle.program_shell.specs.RunViews.{Views, views_of}
use Rattle.program_shell.specs.StepOutcomes.{RunsRequest}
use Rattle.program_shell.specs.declared.failure.Failure.{Failure}
use Rattle.program_shell.specs.declared.product.Product.{Product}
use Rattle.program_shell.specs.declared.status.Status.{Status}
use Rattle.picture_commands.specs.DrawnPictures.{IsPictureDrawn, drawn_read}
use Rattle.picture_commands.specs.Orders.{PictureOrder, drawing, picture_outputs, picture_plan, picture_program_after, proving, showing, telling}
use Rattle.picture_commands.specs.Pictures.{picture_read}
use Rattle.picture_commands.specs.Proofs.{IsNoProof, IsProofPicture, IsProofShown, proof_cert, proof_drawing, proof_plan}
use Rattle.picture_commands.specs.Usage.{picture_program_name, picture_usage}
use Rattle.picture_commands.specs.Words.{ProofOrder}
use Rattle.program_shell.proofs.CallerLemmas.{IsSoundPlan, accepts_sound, ends, named, parses_sound, program_sound, refuses_sound, satisfies_sound}

-- a certificate that has a fault proves nothing: there is one list of the pieces
not_both : PiecesAreUnique → (order : ProofOrder) (d : DrawingValue) (certs : List PieceCert) (product : ProductValue) (text : List ℕ)
    → IsProofPicture order d certs product → IsNoProof d certs text → ⊥
not_both one order d certs product text proof none =
    let same : proof.shown.pieces ≡ none.found.pieces =
    one d proof.shown.pieces none.found.pieces proof.shown.pieces_are none.found.pieces_are in
    let both : None ≡ Some none.reason =
    sym proof.shown.right ∙ ap (λ (ps : List (List ℕ)). certificate_reason (map (piece_graph d) ps) certs) same ∙ none.found.is in
    cc

proof_sound : PiecesAreUnique → (order : ProofOrder) → IsSoundPlan (order.output ∷ []) (proof_plan order)
proof_sound one order = parses_sound (order.output ∷ []) order.drawing drawing_of (proof_drawing order) by_drawing
    (λ fault. refuses_sound (order.output ∷ []) _)
  where
    by_cert : (d : DrawingValue) (certs : List PieceCert) → IsSoundPlan (order.output ∷ []) (proof_cert order d (Ok certs))
    by_cert d certs = satisfies_sound (order.output ∷ []) (IsProofShown order d certs) (λ product is. named product _ is.made)
        (λ product text proof none. not_both one order d certs product text proof none)

    by_drawing : (d : DrawingValue) → IsSoundPlan (order.output ∷ []) (proof_drawing order (Ok d))
    by_drawing d = parses_sound (order.output ∷ []) order.cert cert_of (proof_cert order d) (λ certs. by_cert d certs)
        (λ number. refuses_sound (order.output ∷ []) _)

order_sound : PiecesAreUnique → (order : PictureOrder) → IsSoundPlan (picture_outputs order) (picture_plan order)
order_sound one (showing order) = parses_sound (order.output ∷ []) order.input order.format.reads (picture_read order)
    (λ loaded. accepts_sound (order.output ∷ []) _ (λ product is. named product _ is)) (λ fault. refuses_sound (order.output ∷ []) _)
order_sound one (drawing order) = parses_sound (order.output ∷ []) order.drawing lines_read (drawn_read order)
    (λ read. accepts_sound (order.output ∷ []) (IsPictureDrawn order read) (λ product is. named product _ is.made))
    (λ fault. refuses_sound (order.output ∷ []) _)
order_sound one (proving order) = proof_sound one order
order_sound one (telling text) = accepts_sound [] _ (λ product is. named product _ is)

pub sound : PiecesAreUnique → (mistake : Option MistakenWord) → IsSoundProgram (picture_program_after mistake)
sound one mistake = program_sound (picture_program_after mistake) (order_sound one)

-- A run that is finished with the result of its request, and with the usage text after a mistake, ends as specified.
pub picture_ends : PiecesAreUnique → (mistake : Option MistakenWord) (requested : Option PictureOrder) (store mid : StoreView)
    (out err : SinkView) (after : Views) (s : Status) (result : Result Product Failure)
    → ((m : Option MistakenWord) → RunsRequest (picture_program_after m) requested store mid result)
    → FinishesRun picture_program_name (usage_with picture_program_name picture_usage mistake) result (views_of mid out err) after s
    → RunEnds (picture_program_after mistake) requested (views_of store out err) after s
picture_ends one mistake requested store mid out err after s result runs finishes =
    ends (picture_program_after mistake) (sound one mistake) requested store mid out err after s result (runs mistake) finishes
