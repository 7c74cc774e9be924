-- The headline, of files.
use Rattle.std.proofs.Common.{◌≡◌, ◌≤◌, ℕ, length, Bool, true, false, nat_lt, List, [], ◌∷◌, Option, Some, Result, Ok, Err, IsOkAnd, refl, sym, subst}
use Rattle.stitch_cli.proofs.Names.{AllZip, PieceCert, walks_of, cert_of, acts_of, drawing_of, Loaded, DrawingValue, piece_graph, Sews, Files, Makes, ProductValue, IsLeastPieceRoute, CheckOrder, check_cert, check_design, check_drawing, Order, plan_of, stitch, checking, sewing, IsRouteLeft, IsYesRight, IsSewnProduct, SewingOrder, sewing_by_limit, sewing_read, IsSewnBy, AllFilesHold, WhereVisible, IsDone, IsCorrectPieceCert, OutcomesMeanHeadline, IsParsedMade, parsed_made}
use Rattle.certificate_text.specs.ReadCertificates.{ReadPiecesCanBePrinted}
use Rattle.design_model.specs.declared.limits.TheConstants.{MAX_FILE}
use Rattle.drawing_text.specs.ValidTexts.{TextsDefineValidDrawings}
use Rattle.line_graph.specs.DrawnWalks.{PiecesAreValid}
use Rattle.line_graph.specs.SewnWalks.{PiecesKeepLimits}
use Rattle.odd_cuts.specs.PackingBounds.{BoundsTotal}
use Rattle.program_shell.specs.RunViews.{Views}
use Rattle.route_verdict.specs.declared.sewing_ways.Sewing.TheVariants as ways
use Rattle.stitch_cli.proofs.CertificateLengths.{short_certificate}
use Rattle.route_verdict.specs.VerdictTheorems.{CorrectRoutesAreAccepted, YesIsLeastRedwork}

-- the theorems that the headline follows from
pub record HeadlineLaws : Type 0 where
  pub valid : TextsDefineValidDrawings
  pub accepted : CorrectRoutesAreAccepted
  pub redwork : YesIsLeastRedwork
  pub printed : ReadPiecesCanBePrinted
  pub pieces : PiecesAreValid
  pub limits : PiecesKeepLimits
  pub total : BoundsTotal

-- the certificate of a routed piece is correct
correct : (d : DrawingValue) (pieces : List (List ℕ)) (certs : List PieceCert) → AllZip (IsLeastPieceRoute d) pieces certs
    → AllZip (λ lines cert. IsCorrectPieceCert (piece_graph d lines) cert) pieces certs
correct d [] [] best = tt
correct d [] (cert ∷ certs) best = absurd best
correct d (lines ∷ pieces) [] best = absurd best
correct d (lines ∷ pieces) (cert ∷ certs) best =
    let proved = best.0.proved in (
      record { fitting = proved.fitting; retraced = proved.retraced; packing = proved.packing; total = proved.total },
      correct d pieces certs best.1,
    )

-- a result that is Ok, and its value
record IsValue {T F : Type 0} (P : T → Type 0) (r : Result T F) : Type 0 where
  value : T
  is : r ≡ Ok value
  holds : P value

value_of : {T F : Type 0} (P : T → Type 0) (r : Result T F) → IsOkAnd r P → IsValue P r
value_of P (Ok value) holds = record { value = value; is = refl; holds = holds }
value_of P (Err fault) holds = absurd holds

-- what a route that is made was made of
record IsMadeRoute (order : SewingOrder) (files : Option Files) (product : ProductValue) : Type 0 where
  read : IsParsedMade drawing_of order.drawing (sewing_read (IsSewnBy ways.Route) order) files product
  sewn : IsSewnProduct (IsSewnBy ways.Route) order read.value product

route_made : (order : SewingOrder) (files : Option Files) (product : ProductValue)
    → Makes (plan_of (sewing ways.Route order)) files product → IsMadeRoute order files product
route_made order files product made =
    let read = parsed_made drawing_of order.drawing (sewing_read (IsSewnBy ways.Route) order) files product (λ fault never. never) made in
    record { read = read; sewn = by_limit read.value (nat_lt order.format.limit read.value.step) read.made }
  where
    by_limit : (d : DrawingValue) (above : Bool) → Makes (sewing_by_limit (IsSewnBy ways.Route) order d above) files product
        → IsSewnProduct (IsSewnBy ways.Route) order d product
    by_limit d true made = absurd made
    by_limit d false made = made

-- the two files of a route that is made, over visible files
routed_left : HeadlineLaws → (order : SewingOrder) (before after : Option Files)
    (product : ProductValue) → IsMadeRoute order before product → AllFilesHold after product.outputs
    → WhereVisible before (λ old. WhereVisible after (λ new. IsRouteLeft order old new))
routed_left laws order before after product is held old were new are =
    let made = is.sewn in
    let d = is.read.value in
    let routed : IsSewnBy ways.Route order.format d made.files = made.sewn in
    let loaded = value_of (λ (l : Loaded). (l.ended ≡ true) × Sews d (walks_of routed.certs) (acts_of l.design))
    (order.format.reads made.files.design_file) routed.sewn.read in
    let keeps = (laws.valid is.read.bytes d is.read.is).limits in
    let yes = laws.accepted d routed.pieces loaded.value.design routed.certs keeps routed.pieces_are
    (record { each = correct d routed.pieces routed.certs routed.each; sews = loaded.holds.1 }) in
    let printed = laws.printed made.files.cert_text routed.certs routed.cert_reads in
    let files = subst (λ (p : ProductValue). AllFilesHold after p.outputs) made.made held in
    record {
      drawing_file = is.read.bytes;
      design_file = made.files.design_file;
      cert_file = made.files.cert_text;
      drawing_held = is.read.content.held old were;
      design_held = files.1.0 new are;
      cert_held = files.0 new are;
      d = d;
      loaded = loaded.value;
      certs = routed.certs;
      say = record { drawn = is.read.is; read = loaded.is; certified = routed.cert_reads };
      ended = loaded.holds.0;
      least = record { redwork = (laws.redwork d loaded.value.design routed.certs keeps).0 yes; within = routed.sewn.within };
      judged = yes;
      short = subst (λ (text : List ℕ). length text ≤ MAX_FILE) (sym routed.cert_is)
          (short_certificate d routed.pieces routed.certs keeps routed.pieces_are laws.pieces laws.limits laws.total routed.each printed.0
          printed.1);
    }

same_order : (a b : Order) → Some a ≡ Some b → a ≡ b
same_order a b is = cc

route_done : HeadlineLaws → (order : SewingOrder) (before after : Views)
    → IsDone stitch (Some (sewing ways.Route order)) before after
    → WhereVisible before.store.files (λ old. WhereVisible after.store.files (λ new. IsRouteLeft order old new))
route_done laws order before after done =
    let same = same_order (sewing ways.Route order) done.order done.is_requested in
    let made = subst (λ (o : Order). Makes (plan_of o) before.store.files done.product) (sym same) done.made in
    routed_left laws order before.store.files after.store.files done.product
    (route_made order before.store.files done.product made) done.wrote.held

check_done : (order : CheckOrder) (before after : Views) → IsDone stitch (Some (checking order)) before after
    → WhereVisible before.store.files (IsYesRight order)
check_done order before after done files visible =
    let same = same_order (checking order) done.order done.is_requested in
    let made = subst (λ (o : Order). Makes (plan_of o) before.store.files done.product) (sym same) done.made in
    let drawing = parsed_made drawing_of order.drawing (check_drawing order) before.store.files done.product (λ fault never. never) made in
    let design = parsed_made order.format.reads order.file (check_design order drawing.value) before.store.files done.product
    (λ fault never. never) drawing.made in
    let cert = parsed_made cert_of order.cert (check_cert order drawing.value design.value.design) before.store.files done.product
    (λ number never. never) design.made in
    record {
      drawing_file = drawing.bytes;
      design_file = design.bytes;
      cert_file = cert.bytes;
      drawing_held = drawing.content.held files visible;
      design_held = design.content.held files visible;
      cert_held = cert.content.held files visible;
      d = drawing.value;
      loaded = design.value;
      certs = cert.value;
      say = record { drawn = drawing.is; read = design.is; certified = cert.is };
      least = cert.made.least;
    }

pub headline_holds : HeadlineLaws → OutcomesMeanHeadline
headline_holds laws requested before after s ends = (
  λ order. λ is. λ done. route_done laws order before after
      (subst (λ (r : Option Order). IsDone stitch r before after) is (ends.done done)),
  λ order. λ is. λ done. check_done order before after (subst (λ (r : Option Order). IsDone stitch r before after) is (ends.done done)),
)
