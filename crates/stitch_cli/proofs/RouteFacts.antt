-- Worked values of what a route reports.
use Rattle.std.proofs.Common.{◌≡◌, ℕ, pos, [], ◌∷◌, ◌++◌, refl}
use Rattle.std.specs.Fmt.{digits}
use Rattle.std.specs.Prelude.{codes}
use Rattle.stitch_cli.proofs.Names.{PieceCert, newline, Point, DrawingValue, piece_reports, sewing_report}
use Rattle.route_verdict.specs.declared.sewing_ways.Sewing.TheVariants as ways

abbrev at : ℕ → ℕ → Point
at x y = record { x = pos x; y = pos y }

-- at the longest step 10, a stroke of 40 in a first block, and two strokes of 20 and 30 that meet in a second
abbrev strokes : DrawingValue
strokes = record {
  label = [];
  step = 10;
  threads = 3 ∷ 9 ∷ [];
  lines = record { block = 0; points = at 0 0 ∷ at 40 0 ∷ [] } ∷ record { block = 1; points = at 0 0 ∷ at 0 20 ∷ [] }
      ∷ record { block = 1; points = at 0 20 ∷ at 30 20 ∷ [] } ∷ [];
  starts = [];
  ends = [];
}

-- a certificate of that retraced cost; the report looks at nothing else
abbrev retraced : ℕ → PieceCert
retraced cost = record { retraced = cost; walk = []; cuts = [] }

-- each stroke there and back; pieces are counted through the whole drawing, and the needle goes
-- down once more often than it makes steps
pub known_report : sewing_report ways.Route (piece_reports strokes 1 ((0 ∷ []) ∷ (1 ∷ 2 ∷ []) ∷ []) (retraced 4 ∷ retraced 5 ∷ []))
    ≡ codes "block 1 piece 1 lines 1 cost 4 retraced 4 penetrations 9" ++ (newline
    ++ (codes "block 2 piece 2 lines 2 cost 5 retraced 5 penetrations 11" ++ (newline
    ++ (codes "pieces 2 penetrations 20" ++ newline))))
unfolding digits
known_report = refl
