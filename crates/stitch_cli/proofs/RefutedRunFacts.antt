-- What no route leaves and no run does: certificates without a thread, a silent failure, a lost report after success, and a changed
-- file that the order doesn't write.
use Rattle.std.proofs.Common.{◌≡◌, ◌≢◌, ◌<◌, ℕ, List, [], ◌∷◌, length, Contains, Option, Some, None, Ok, codes, ap, arith, refl, sym, subst}
use Rattle.std.specs.List.{AllZip, concat}
use Rattle.certificate_text.specs.ReadCertificates.{cert_of}
use Rattle.drawing_text.specs.DrawingText.{drawing_of}
use Rattle.line_graph.specs.Drawings.{DrawingValue}
use Rattle.line_graph.specs.Pieces.{ArePieces}
use Rattle.odd_cuts.specs.declared.certificate.PieceCert.{PieceCert}
use Rattle.outside_io.specs.Files.{Files}
use Rattle.outside_io.specs.Views.{SinkView, StoreView}
use Rattle.program_shell.specs.Plans.{Plan}
use Rattle.program_shell.specs.ProgramRuns.{IsFailed, IsPlannedOutcome, IsReportLost, RunEnds, failed, memory, refused, usage}
use Rattle.program_shell.specs.Puts.{with_bytes_put}
use Rattle.program_shell.specs.RunFailures.{IsOutsideFailure, missing, not_read, not_written, unprinted}
use Rattle.program_shell.specs.RunViews.{Views, views_of}
use Rattle.program_shell.specs.declared.status.Status.{Status}
use Rattle.route_verdict.specs.LeastRedwork.{IsLeastRedwork}
use Rattle.route_verdict.specs.Verdicts.{IsVerdict}
use Rattle.route_verdict.specs.declared.sewing_ways.Sewing.TheVariants as ways
use Rattle.route_verdict.specs.declared.verdict.Verdict.TheVariants as verdict
use Rattle.design_model.specs.Designs.{DesignValue}
use Rattle.stitch_cli.specs.Commands.{Order, sewing, stitch}
use Rattle.stitch_cli.specs.Headline.{IsRouteLeft, IsYesRight}
use Rattle.stitch_cli.proofs.RefutedRouteFacts.{same, with}
use Rattle.stitch_cli.proofs.RouteLeftFacts.{after, before, known_drawing, route_order, yes_order}
use Rattle.stitch_cli.proofs.SquareRoute.{drawing_file, square}

-- the text of a certificate without a piece
abbrev no_piece : List ℕ
no_piece = codes "redwork-certificate 1\nend\n"

known_no_piece : cert_of no_piece ≡ Ok []
known_no_piece = refl

abbrev unproved : Files
unproved = with (codes "sq.cert") (Some no_piece) after

-- what the files say is the square, and no certificate
said_square : (bytes : List ℕ) (d : DrawingValue) → drawing_file ≡ bytes → drawing_of bytes ≡ Ok d → square ≡ d
said_square bytes d are is =
    let said : drawing_of drawing_file ≡ Ok d = subst (λ (b : List ℕ). drawing_of b ≡ Ok d) (sym are) is in
    let read = known_drawing in cc

said_none : (bytes : List ℕ) (certs : List PieceCert) → no_piece ≡ bytes → cert_of bytes ≡ Ok certs → [] ≡ certs
said_none bytes certs are is =
    let said : cert_of no_piece ≡ Ok certs = subst (λ (b : List ℕ). cert_of b ≡ Ok certs) (sym are) is in
    let read = known_no_piece in cc

-- the line of the square is in some piece
some_piece : (d : DrawingValue) (pieces : List (List ℕ)) → square ≡ d → ArePieces d pieces → [] ≡ pieces → ⊥
some_piece d pieces is are none = nothing (subst (λ (ps : List (List ℕ)). Contains (concat ps) 0) (sym none)
    ((subst (λ (e : DrawingValue). ArePieces e pieces) (sym is) are).covered 0 (omega arith)))
  where
    nothing : Contains {X = ℕ} [] 0 → ⊥
    nothing there = omega (arith, there.1)

no_piece_zipped : (P : List ℕ → PieceCert → Type 0) (pieces : List (List ℕ)) (certs : List PieceCert) → [] ≡ certs
    → AllZip P pieces certs → [] ≡ pieces
no_piece_zipped P [] certs none all = refl
no_piece_zipped P (lines ∷ pieces) [] none all = absurd all
no_piece_zipped P (lines ∷ pieces) (cert ∷ certs) none all = cc

not_redwork : (d : DrawingValue) (design : DesignValue) (certs : List PieceCert) → square ≡ d → [] ≡ certs
    → IsLeastRedwork d design certs → ⊥
not_redwork d design certs drawn none is =
    some_piece d is.pieces drawn is.pieces_are (no_piece_zipped _ is.pieces certs none is.threads)

not_judged : (d : DrawingValue) (design : DesignValue) (certs : List PieceCert) → square ≡ d → [] ≡ certs
    → IsVerdict d design certs verdict.Yes → ⊥
not_judged d design certs drawn none is =
    some_piece d is.pieces drawn is.is.pieces_are (no_piece_zipped _ is.pieces certs none (is.is.exact.0 refl).each)

-- A route leaves a certificate of each piece: so says the headline, and so does the verdict.
pub known_left_unthreaded : IsRouteLeft route_order before unproved → ⊥
known_left_unthreaded is = not_redwork is.d is.loaded.design is.certs
    (said_square is.drawing_file is.d (same drawing_file is.drawing_file is.drawing_held) is.say.drawn)
    (said_none is.cert_file is.certs (same no_piece is.cert_file is.cert_held) is.say.certified) is.least.redwork

pub known_left_unjudged : IsRouteLeft route_order before unproved → ⊥
known_left_unjudged is = not_judged is.d is.loaded.design is.certs
    (said_square is.drawing_file is.d (same drawing_file is.drawing_file is.drawing_held) is.say.drawn)
    (said_none is.cert_file is.certs (same no_piece is.cert_file is.cert_held) is.say.certified) is.judged

-- No yes is right of a certificate without a piece.
pub known_yes_unthreaded : IsYesRight yes_order unproved → ⊥
known_yes_unthreaded is = not_redwork is.d is.loaded.design is.certs
    (said_square is.drawing_file is.d (same drawing_file is.drawing_file is.drawing_held) is.say.drawn)
    (said_none is.cert_file is.certs (same no_piece is.cert_file is.cert_held) is.say.certified) is.least

-- A certificate file has at most 64 MiB.
pub known_left_too_long : (bytes : List ℕ) → 67108864 < length bytes
    → IsRouteLeft route_order before (with (codes "sq.cert") (Some bytes) after) → ⊥
known_left_too_long bytes long is =
    let held : bytes ≡ is.cert_file = same bytes is.cert_file is.cert_held in
    omega (arith, long, ap (λ (b : List ℕ). length b) held, is.short)

-- a sink that took these bytes, and a store with these files
abbrev took : List ℕ → SinkView
took bytes = record { taken = Some bytes; faults = 0 }

abbrev storing : Files → StoreView
storing files = record { files = Some files; faults = 0; blame = None }

-- a line of the program isn't empty
none_taken : (line : List ℕ) → took [] ≡ took (115 ∷ line) → ⊥
none_taken line is = let taken : Some [] ≡ Some (115 ∷ line) = ap (λ (s : SinkView). s.taken) is in cc

spoken : (plan : Plan) (b a : Views) (line : List ℕ) → IsOutsideFailure (codes "stitch") plan b a line
    → took [] ≡ with_bytes_put (took []) line → ⊥
spoken plan b a line (missing name is why) silent =
    none_taken _ (subst (λ (l : List ℕ). took [] ≡ with_bytes_put (took []) l) is silent)
spoken plan b a line (not_read name is why) silent =
    none_taken _ (subst (λ (l : List ℕ). took [] ≡ with_bytes_put (took []) l) is silent)
spoken plan b a line (not_written name is why) silent =
    none_taken _ (subst (λ (l : List ℕ). took [] ≡ with_bytes_put (took []) l) is silent)
spoken plan b a line (unprinted is why) silent =
    none_taken _ (subst (λ (l : List ℕ). took [] ≡ with_bytes_put (took []) l) is silent)

-- A failed run prints its line.
pub known_failed_in_silence : (requested : Option Order) (s s' : StoreView) (out out' : SinkView)
    → IsFailed stitch requested (views_of s out (took [])) (views_of s' out' (took [])) → ⊥
known_failed_in_silence requested s s' out out' is = spoken _ _ _ is.line is.fails is.message

-- Where a report is lost, nothing else happened than in the outcome that was planned.
no_order : (order : Order) → None ≡ Some order → ⊥
no_order order is = cc

unchanged : (s : StoreView) (err err' : SinkView) (planned : Status) (text : List ℕ)
    → IsPlannedOutcome stitch None (views_of s (took []) err) (views_of s (took (115 ∷ [])) err') planned text → ⊥
unchanged s err err' planned text (usage none is said untouched) = none_taken [] (sym untouched.out)
unchanged s err err' planned text (refused order why is status said cause untouched) = no_order order is
unchanged s err err' planned text (failed order is status fails) = no_order order is
unchanged s err err' planned text (memory is said untouched) = none_taken [] (sym untouched.out)

pub known_lost_with_output : (s : StoreView) (err err' : SinkView)
    → IsReportLost stitch None (views_of s (took []) err) (views_of s (took (115 ∷ [])) err') → ⊥
known_lost_with_output s err err' is = unchanged s err err' is.planned is.text is.calls

-- A route doesn't change the drawing.
abbrev undrawn : Files
undrawn = with (codes "sq.rw") None after

another : (codes "sq.rw" ≢ codes "sq.cert") × (codes "sq.rw" ≢ codes "sq.dst")
another = (λ is. cc, λ is. cc)

gone : None ≡ Some drawing_file → ⊥
gone is = cc

pub known_changed_drawing : (out out' err err' : SinkView) (s : Status)
    → RunEnds stitch (Some (sewing ways.Route route_order)) (views_of (storing before) out err) (views_of (storing undrawn) out' err') s
    → ⊥
known_changed_drawing out out' err err' s ends = gone (ends.others (codes "sq.rw") (another.0, (another.1, tt)))
