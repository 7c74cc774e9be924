-- The headline of files in other words: what is read of its two records.
use Rattle.std.proofs.Common.{◌≡◌, ◌≤◌, ℕ, true, List, length, Some, Ok}
use Rattle.design_model.specs.declared.limits.TheConstants.{MAX_FILE}
use Rattle.stitch_cli.proofs.Names.{PieceCert, cert_of, drawing_of, Loaded, DrawingValue, Files, CheckOrder, IsRouteLeft, IsYesRight, SewingOrder, IsVerdict}
use Rattle.route_verdict.specs.declared.verdict.Verdict.TheVariants as verdict
use Rattle.route_verdict.specs.LeastRedwork.{IsLeastRedwork, IsLeastRoute}

pub known_left : (order : SewingOrder) (before after : Files) → IsRouteLeft order before after
    → (drawing design cert : List ℕ) × (before order.drawing ≡ Some drawing) × (after order.out ≡ Some design)
    × (after order.cert ≡ Some cert)
    × (d : DrawingValue) × (l : Loaded) × (certs : List PieceCert) × (drawing_of drawing ≡ Ok d) × (order.format.reads design ≡ Ok l)
    × (cert_of cert ≡ Ok certs) × (l.ended ≡ true) × IsLeastRoute d l.design certs order.format.limit (order.format.moves design)
    × IsVerdict d l.design certs verdict.Yes × (length cert ≤ MAX_FILE)
known_left order before after is = (
  is.drawing_file,
  is.design_file,
  is.cert_file,
  is.drawing_held,
  is.design_held,
  is.cert_held,
  is.d,
  is.loaded,
  is.certs,
  is.say.drawn,
  is.say.read,
  is.say.certified,
  is.ended,
  is.least,
  is.judged,
  is.short,
)

pub known_right : (order : CheckOrder) (files : Files) → IsYesRight order files
    → (drawing design cert : List ℕ) × (files order.drawing ≡ Some drawing) × (files order.file ≡ Some design)
    × (files order.cert ≡ Some cert)
    × (d : DrawingValue) × (l : Loaded) × (certs : List PieceCert) × (drawing_of drawing ≡ Ok d) × (order.format.reads design ≡ Ok l)
    × (cert_of cert ≡ Ok certs) × IsLeastRedwork d l.design certs
known_right order files is = (
  is.drawing_file,
  is.design_file,
  is.cert_file,
  is.drawing_held,
  is.design_held,
  is.cert_held,
  is.d,
  is.loaded,
  is.certs,
  is.say.drawn,
  is.say.read,
  is.say.certified,
  is.least,
)
