-- The headline, of files: what `route` leaves, and what the yes of `check` says. The headline over
-- values is LeastRedwork of route_verdict; a file says its value as the texts of drawings, the
-- texts of certificates and the format of the design define.
use Rattle.std.specs.Prelude.{◌≡◌, ◌≤◌, ℕ, true, List, length, Option, Some, Ok}
use Rattle.odd_cuts.specs.declared.certificate.PieceCert.{PieceCert}
use Rattle.certificate_text.specs.ReadCertificates.{cert_of}
use Rattle.design_model.specs.declared.limits.TheConstants.{MAX_FILE}
use Rattle.drawing_text.specs.DrawingText.{drawing_of}
use Rattle.format_traits.specs.declared.loaded.Loaded.{Loaded}
use Rattle.format_traits.specs.Meanings.{Meaning}
use Rattle.line_graph.specs.Drawings.{DrawingValue}
use Rattle.outside_io.specs.Files.{Files, WhereVisible}
use Rattle.program_shell.specs.declared.status.Status.{Status}
use Rattle.program_shell.specs.declared.status.Status.TheVariants as status
use Rattle.program_shell.specs.ProgramRuns.{RunEnds}
use Rattle.program_shell.specs.RunViews.{Views}
use Rattle.route_verdict.specs.declared.sewing_ways.Sewing.TheVariants as ways
use Rattle.route_verdict.specs.declared.verdict.Verdict.TheVariants as verdict
use Rattle.route_verdict.specs.LeastRedwork.{IsLeastRedwork, IsLeastRoute}
use Rattle.route_verdict.specs.Verdicts.{IsVerdict}
use Rattle.stitch_cli.specs.Checks.{CheckOrder}
use Rattle.stitch_cli.specs.Commands.{Order, stitch, checking, sewing}
use Rattle.stitch_cli.specs.Sewings.{SewingOrder}

-- Three files say a drawing, a design and the certificates of its walks.
pub record FilesSay (format : Meaning) (drawing_file design_file cert_file : List ℕ)
    (d : DrawingValue) (loaded : Loaded) (certs : List PieceCert) : Type 0 where
  pub drawn : drawing_of drawing_file ≡ Ok d
  pub read : format.reads design_file ≡ Ok loaded
  pub certified : cert_of cert_file ≡ Ok certs

-- What is left after `route`: the design file, read again, is a least route of the drawing that the
-- drawing file said, within the limit of its format and to its end, as the certificate file proves.
-- The verdict on the three files is yes, and the certificate file is no longer than `check` reads.
pub record IsRouteLeft (order : SewingOrder) (before after : Files) : Type 0 where
  pub drawing_file : List ℕ
  pub design_file : List ℕ
  pub cert_file : List ℕ
  pub drawing_held : before order.drawing ≡ Some drawing_file
  pub design_held : after order.out ≡ Some design_file
  pub cert_held : after order.cert ≡ Some cert_file
  pub d : DrawingValue
  pub loaded : Loaded
  pub certs : List PieceCert
  pub say : FilesSay order.format drawing_file design_file cert_file d loaded certs
  pub ended : loaded.ended ≡ true
  pub least : IsLeastRoute d loaded.design certs order.format.limit
      (order.format.moves design_file)
  pub judged : IsVerdict d loaded.design certs verdict.Yes
  pub short : length cert_file ≤ MAX_FILE

-- What the yes of `check` says of the three files, whoever made them: the design is least redwork.
-- Nothing is said of the design's label and threads, of the end of its file and what is after it,
-- or of the jumps of a loose thread.
pub record IsYesRight (order : CheckOrder) (files : Files) : Type 0 where
  pub drawing_file : List ℕ
  pub design_file : List ℕ
  pub cert_file : List ℕ
  pub drawing_held : files order.drawing ≡ Some drawing_file
  pub design_held : files order.file ≡ Some design_file
  pub cert_held : files order.cert ≡ Some cert_file
  pub d : DrawingValue
  pub loaded : Loaded
  pub certs : List PieceCert
  pub say : FilesSay order.format drawing_file design_file cert_file d loaded certs
  pub least : IsLeastRedwork d loaded.design certs

-- Where a `route` is requested and the run is done, it leaves a least route, if files are visible.
abbrev pub RoutesLeast : Option Order → (before after : Views) → Status → Type 0
RoutesLeast requested before after s = (order : SewingOrder)
    → requested ≡ Some (sewing ways.Route order) → s ≡ status.Done
    → WhereVisible before.store.files (λ old. WhereVisible after.store.files (λ new.
    IsRouteLeft order old new))

-- Where a `check` is requested and the run is done, the three files were of least redwork, if files
-- are visible.
abbrev pub ChecksRightly : Option Order → (before : Views) → Status → Type 0
ChecksRightly requested before s = (order : CheckOrder)
    → requested ≡ Some (checking order) → s ≡ status.Done
    → WhereVisible before.store.files (IsYesRight order)

-- What each run guarantees of routes and checks, as its outcome says.
abbrev pub OutcomesMeanHeadline : Type 0
OutcomesMeanHeadline = (requested : Option Order) (before after : Views) (s : Status)
    → RunEnds stitch requested before after s
    → RoutesLeast requested before after s × ChecksRightly requested before s
