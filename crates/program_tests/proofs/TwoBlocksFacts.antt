-- The headline holds of a drawing of two blocks, of values and of files, and a run of `check` over its files ends as specified.
-- That each thread is least follows from its cuts, by the theorems of verdicts.
use Rattle.std.proofs.Common.{◌≡◌, ℕ, ◌*◌, ◌<◌, ◌≤◌, true, List, [], ◌∷◌, Some, None, Ok, All, bytes_eq, if◌then◌else◌, codes, arith, refl}
use Rattle.std.proofs.lemmas.List.Elements.{All-cons, All-nil}
use Rattle.certificate_text.specs.ReadCertificates.{cert_of}
use Rattle.drawing_text.specs.DrawingText.{drawing_of}
use Rattle.drawing_text.specs.ValidTexts.{TextsDefineValidDrawings}
use Rattle.format_traits.specs.declared.loaded.Loaded.{Loaded}
use Rattle.line_graph.specs.Drawings.{KeepsDrawingLimits}
use Rattle.line_graph.specs.PieceGraphs.{PieceValue, piece_graph}
use Rattle.line_graph.specs.declared.edge.Edge.{Edge}
use Rattle.odd_cuts.specs.Cuts.{load_on}
use Rattle.odd_cuts.specs.Packings.{IsOddCut, IsPacking}
use Rattle.odd_cuts.specs.declared.certificate.PieceCert.{PieceCert}
use Rattle.odd_cuts.specs.declared.cut.Cut.{Cut}
use Rattle.outside_io.specs.Files.{Files}
use Rattle.program_tests.proofs.TwoBlocks.{cert_file, cut, design, design_file, drawing, drawing_file, pieces_are, stem_cert, stemmed, tail_cert, tailed}
use Rattle.route_verdict.specs.LeastRedwork.{IsLeastRedwork, IsLeastRoute}
use Rattle.route_verdict.specs.VerdictTheorems.{CorrectRoutesAreAccepted, YesIsLeastRedwork}
use Rattle.route_verdict.specs.Verdicts.{IsCorrectRoute, IsVerdict}
use Rattle.route_verdict.specs.declared.sewing_ways.Sewing.TheVariants as ways
use Rattle.route_verdict.specs.declared.verdict.Verdict.TheVariants as verdict
use Rattle.stitch_cli.specs.Checks.{CheckOrder}
use Rattle.stitch_cli.specs.Commands.{checking, sewing}
use Rattle.stitch_cli.specs.Headline.{FilesSay, IsRouteLeft, IsYesRight}
use Rattle.stitch_cli.specs.Sewings.{SewingOrder}
use Rattle.stitch_cli.specs.StitchRuns.{stitch_order}
use Rattle.stitch_text.specs.Format.{list_meaning}

-- what the files say
pub known_drawing : drawing_of drawing_file ≡ Ok drawing
known_drawing = refl

abbrev pub certs : List PieceCert
certs = tail_cert ∷ stem_cert ∷ []

pub known_certs : cert_of cert_file ≡ Ok certs
known_certs = refl

abbrev pub loaded : Loaded
loaded = record { design = design; ended = true }

pub known_design : list_meaning.reads design_file ≡ Ok loaded
known_design = refl

-- the certificates are correct: each cut holds one odd junction, and the tail and the stem carry two halves for their one step
abbrev tail_graph : PieceValue
tail_graph = piece_graph drawing tailed

abbrev stem_graph : PieceValue
stem_graph = piece_graph drawing stemmed

abbrev edge : ℕ → ℕ → ℕ → Edge
edge a b cost = record { a = a; b = b; cost = cost }

abbrev Below : ℕ → ℕ → Type 0
Below n j = j < n

below : (n j : ℕ) → j < n → All (Below n) (j ∷ [])
below n j less = All-cons (Below n) j [] less (All-nil (Below n))

abbrev Load : List Cut → Edge → Type 0
Load cuts e = load_on cuts e ≤ 2 * e.cost

tail_packing : IsPacking tail_graph tail_cert.cuts
tail_packing = record {
  odd = All-cons (IsOddCut tail_graph) (cut 0) (cut 1 ∷ []) (record { there = below 2 0 (omega arith); odd = refl })
      (All-cons (IsOddCut tail_graph) (cut 1) [] (record { there = below 2 1 (omega arith); odd = refl }) (All-nil (IsOddCut tail_graph)));
  loads = All-cons (Load tail_cert.cuts) (edge 0 1 1) (edge 1 1 3 ∷ []) (omega arith)
      (All-cons (Load tail_cert.cuts) (edge 1 1 3) [] (omega arith) (All-nil (Load tail_cert.cuts)));
}

stem_packing : IsPacking stem_graph stem_cert.cuts
stem_packing = record {
  odd = All-cons (IsOddCut stem_graph) (cut 1) (cut 3 ∷ []) (record { there = below 4 1 (omega arith); odd = refl })
      (All-cons (IsOddCut stem_graph) (cut 3) [] (record { there = below 4 3 (omega arith); odd = refl }) (All-nil (IsOddCut stem_graph)));
  loads = All-cons (Load stem_cert.cuts) (edge 0 1 1) (edge 1 2 2 ∷ edge 1 3 1 ∷ []) (omega arith)
      (All-cons (Load stem_cert.cuts) (edge 1 2 2) (edge 1 3 1 ∷ []) (omega arith)
      (All-cons (Load stem_cert.cuts) (edge 1 3 1) [] (omega arith) (All-nil (Load stem_cert.cuts))));
}

pub correct : IsCorrectRoute drawing (tailed ∷ stemmed ∷ []) design certs
correct = record {
  each = (
    record { fitting = refl; retraced = refl; packing = tail_packing; total = refl },
    (record { fitting = refl; retraced = refl; packing = stem_packing; total = refl }, tt),
  );
  sews = refl;
}

-- the files before the route, and after it
abbrev before : Files
before name = if bytes_eq name (codes "two.rw") then Some drawing_file else None

abbrev pub after : Files
after name = if bytes_eq name (codes "two.lst") then Some design_file
    else if bytes_eq name (codes "two.cert") then Some cert_file else before name

abbrev route_order : SewingOrder
route_order = record { drawing = codes "two.rw"; out = codes "two.lst"; cert = codes "two.cert"; format = list_meaning }

abbrev pub yes_order : CheckOrder
yes_order = record { drawing = codes "two.rw"; file = codes "two.lst"; cert = codes "two.cert"; format = list_meaning }

abbrev pub words : List ℕ → List (List ℕ)
words command = command ∷ codes "two.rw" ∷ codes "two.lst" ∷ codes "two.cert" ∷ []

-- the arguments request these orders, over the five formats
pub known_orders : (stitch_order (words (codes "route")) ≡ Some (sewing ways.Route route_order))
    × (stitch_order (words (codes "check")) ≡ Some (checking yes_order))
known_orders = (refl, refl)

abbrev say : FilesSay list_meaning drawing_file design_file cert_file drawing loaded certs
say = record { drawn = known_drawing; read = known_design; certified = known_certs }

-- what the theorems make of it
module _ (valid : TextsDefineValidDrawings) (accepted : CorrectRoutesAreAccepted) (redwork : YesIsLeastRedwork) where
  keeps : KeepsDrawingLimits drawing
  keeps = (valid drawing_file drawing known_drawing).limits

  pub known_judged : IsVerdict drawing design certs verdict.Yes
  known_judged = accepted drawing (tailed ∷ stemmed ∷ []) design certs keeps pieces_are correct

  pub known_least : IsLeastRedwork drawing design certs
  known_least = (redwork drawing design certs keeps).0 known_judged

  pub known_least_route : IsLeastRoute drawing design certs list_meaning.limit (list_meaning.moves design_file)
  known_least_route = record { redwork = known_least; within = refl }

  pub known_route_left : IsRouteLeft route_order before after
  known_route_left = record {
    drawing_file = drawing_file;
    design_file = design_file;
    cert_file = cert_file;
    drawing_held = refl;
    design_held = refl;
    cert_held = refl;
    d = drawing;
    loaded = loaded;
    certs = certs;
    say = say;
    ended = refl;
    least = known_least_route;
    judged = known_judged;
    short = omega arith;
  }

  pub known_yes_right : IsYesRight yes_order after
  known_yes_right = record {
    drawing_file = drawing_file;
    design_file = design_file;
    cert_file = cert_file;
    drawing_held = refl;
    design_held = refl;
    cert_held = refl;
    d = drawing;
    loaded = loaded;
    certs = certs;
    say = say;
    least = known_least;
  }
