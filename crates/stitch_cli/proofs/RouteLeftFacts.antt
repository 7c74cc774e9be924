-- The headline of files holds of the square's three files, byte by byte: of what `route sq.rw sq.dst sq.cert` leaves, and of what
-- `check sq.rw sq.dst sq.cert` then reads.
use Rattle.std.proofs.Common.{◌≡◌, ◌≤◌, ℕ, ◌+◌, ◌*◌, ◌==◌, ◌||◌, ◌&&◌, Bool, true, false, List, [], ◌∷◌, ◌++◌, replicate, bytes_eq, length, Some, None, if◌then◌else◌, Ok, codes, arith, refl, true≢false, sym}
use Rattle.std.proofs.lemmas.List.Elements.{All-cons, All-nil}
use Rattle.certificate_text.specs.ReadCertificates.{cert_of}
use Rattle.dst_codec.specs.Format.{dst_meaning}
use Rattle.drawing_text.specs.DrawingText.{drawing_of}
use Rattle.format_traits.specs.declared.loaded.Loaded.{Loaded}
use Rattle.line_graph.specs.PieceGraphs.{PieceValue, piece_graph}
use Rattle.line_graph.specs.PieceWalks.{edge_cost, edge_value, is_line_passed, is_walk_start_to_end, pass_sum}
use Rattle.line_graph.specs.declared.edge.Edge.{Edge}
use Rattle.line_graph.specs.declared.pass.Pass.{Pass}
use Rattle.odd_cuts.specs.Cuts.{load_on}
use Rattle.odd_cuts.specs.Packings.{IsOddCut}
use Rattle.route_verdict.specs.Verdicts.{IsCorrectRoute, IsVerdict}
use Rattle.route_verdict.specs.declared.verdict.Verdict.TheVariants as verdict
use Rattle.outside_io.specs.Files.{Files}
use Rattle.route_verdict.specs.declared.sewing_ways.Sewing.TheVariants as ways
use Rattle.stitch_cli.specs.Checks.{CheckOrder}
use Rattle.stitch_cli.specs.Commands.{checking, sewing}
use Rattle.stitch_cli.specs.Headline.{FilesSay, IsRouteLeft, IsYesRight}
use Rattle.stitch_cli.specs.Sewings.{SewingOrder}
use Rattle.stitch_cli.specs.StitchRuns.{stitch_order}
use Rattle.stitch_cli.proofs.SmallestFacts.{square_redwork}
use Rattle.stitch_cli.proofs.SquareRoute.{cert, cert_file, design, drawing_file, piece, square, square_piece}

pub known_drawing : drawing_of drawing_file ≡ Ok square
known_drawing = refl

pub known_cert : cert_of cert_file ≡ Ok (cert ∷ [])
known_cert = refl

-- a field of the header, which a carriage return ends
abbrev field : List ℕ → List ℕ
field text = text ++ 13 ∷ []

-- the header of the square: 128 bytes, and spaces up to 512 bytes
abbrev pub header : List ℕ
header = field (codes "LA:                ") ++ field (codes "ST:      9") ++ field (codes "CO:  0") ++ field (codes "+X:   30")
    ++ field (codes "-X:    0") ++ field (codes "+Y:    0") ++ field (codes "-Y:   30") ++ field (codes "AX:+    0")
    ++ field (codes "AY:+    0") ++ field (codes "MX:+    0") ++ field (codes "MY:+    0") ++ field (codes "PD:******")
    ++ 0x1a ∷ replicate 387 32

-- five stitches, three jumps and the end
abbrev records : List ℕ
records = 0x00 ∷ 0x00 ∷ 0x03 ∷ 0x00 ∷ 0x05 ∷ 0x03 ∷ 0x00 ∷ 0x50 ∷ 0x03 ∷ 0x00 ∷ 0x0a ∷ 0x03 ∷ 0x00 ∷ 0xa0 ∷ 0x03
    ∷ 0x82 ∷ 0x41 ∷ 0x83 ∷ 0x82 ∷ 0x82 ∷ 0x83 ∷ 0x82 ∷ 0x41 ∷ 0x83 ∷ 0x00 ∷ 0x00 ∷ 0xf3 ∷ []

abbrev design_file : List ℕ
design_file = header ++ records

pub known_length : length design_file ≡ 539
known_length = refl

abbrev loaded : Loaded
loaded = record { design = design; ended = true }

pub known_design : dst_meaning.reads design_file ≡ Ok loaded
known_design = refl

abbrev graph : PieceValue
graph = piece_graph square piece

abbrev edge : Edge
edge = record { a = 0; b = 0; cost = 4 }

four : (more : ℕ) → 4 ≤ 4 + more
four more = omega arith

-- a walk that passes the line costs its four steps at least
passing_costs : (walk : List Pass) → is_line_passed 0 walk ≡ true → 4 ≤ pass_sum graph.lines graph.edges edge_cost walk
passing_costs [] is = absurd (true≢false (sym is))
passing_costs (pass ∷ rest) is = by_test (pass.line == 0) is (passing_costs rest)
  where
    by_test : (same : Bool) → (same || is_line_passed 0 rest) ≡ true
        → (is_line_passed 0 rest ≡ true → 4 ≤ pass_sum graph.lines graph.edges edge_cost rest)
        → 4 ≤ edge_value edge_cost (if same then Some edge else None) + pass_sum graph.lines graph.edges edge_cost rest
    by_test true is later = four (pass_sum graph.lines graph.edges edge_cost rest)
    by_test false is later = omega (arith, later is)

fits_pass : (starts passed : Bool) → (starts && (passed && true)) ≡ true → passed ≡ true
fits_pass true true is = refl
fits_pass true false is = is
fits_pass false passed is = absurd (true≢false (sym is))

abbrev Load : Edge → Type 0
Load e = load_on [] e ≤ 2 * e.cost

pub square_is_judged : IsVerdict square design (cert ∷ []) verdict.Yes
square_is_judged = record {
  pieces = piece ∷ [];
  is = record {
    pieces_are = square_piece;
    is = refl;
    exact = (λ yes. correct, λ right. refl);
    least = λ yes. (
      λ other. λ fits. passing_costs other
          (fits_pass (is_walk_start_to_end graph other) (is_line_passed 0 other) fits),
      tt,
    );
  };
}
  where
    correct : IsCorrectRoute square (piece ∷ []) design (cert ∷ [])
    correct = record {
      each = (
        record {
          fitting = refl;
          retraced = refl;
          packing = record { odd = All-nil (IsOddCut graph); loads = All-cons Load edge [] (omega arith) (All-nil Load) };
          total = refl;
        },
        tt,
      );
      sews = refl;
    }

-- the files before the route, and after it
abbrev pub before : Files
before name = if bytes_eq name (codes "sq.rw") then Some drawing_file else None

abbrev pub after : Files
after name = if bytes_eq name (codes "sq.dst") then Some design_file
    else if bytes_eq name (codes "sq.cert") then Some cert_file else before name

abbrev pub route_order : SewingOrder
route_order = record { drawing = codes "sq.rw"; out = codes "sq.dst"; cert = codes "sq.cert"; format = dst_meaning }

abbrev pub yes_order : CheckOrder
yes_order = record { drawing = codes "sq.rw"; file = codes "sq.dst"; cert = codes "sq.cert"; format = dst_meaning }

-- the arguments request these orders, over the five formats
pub known_orders : (stitch_order (codes "route" ∷ codes "sq.rw" ∷ codes "sq.dst" ∷ codes "sq.cert" ∷ [])
    ≡ Some (sewing ways.Route route_order))
    × (stitch_order (codes "check" ∷ codes "sq.rw" ∷ codes "sq.dst" ∷ codes "sq.cert" ∷ []) ≡ Some (checking yes_order))
known_orders = (refl, refl)

abbrev say : FilesSay dst_meaning drawing_file design_file cert_file square loaded (cert ∷ [])
say = record { drawn = known_drawing; read = known_design; certified = known_cert }

pub square_is_left : IsRouteLeft route_order before after
square_is_left = record {
  drawing_file = drawing_file;
  design_file = design_file;
  cert_file = cert_file;
  drawing_held = refl;
  design_held = refl;
  cert_held = refl;
  d = square;
  loaded = loaded;
  certs = cert ∷ [];
  say = say;
  ended = refl;
  least = record { redwork = square_redwork; within = refl };
  judged = square_is_judged;
  short = omega arith;
}

pub square_is_right : IsYesRight yes_order after
square_is_right = record {
  drawing_file = drawing_file;
  design_file = design_file;
  cert_file = cert_file;
  drawing_held = refl;
  design_held = refl;
  cert_held = refl;
  d = square;
  loaded = loaded;
  certs = cert ∷ [];
  say = say;
  least = square_redwork;
}
