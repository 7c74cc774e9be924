-- Worked values of the summary of a sample.
use Rattle.std.proofs.Common.{◌≡◌, ℤ, pos, negsuc, [], ◌∷◌, ◌++◌, refl}
use Rattle.std.specs.Fmt.{digits}
use Rattle.std.specs.Prelude.{codes}
use Rattle.stitch_cli.proofs.Names.{PieceCert, newline, Point, DrawingValue, summary_of, summary_text}

abbrev at : ℤ → ℤ → Point
at x y = record { x = x; y = y }

-- three ways of 1, 3 and 5 steps between two junctions, and a line of 4 steps from the second to a third
abbrev kite : DrawingValue
kite = record {
  label = [];
  step = 10;
  threads = 1 ∷ [];
  lines = record { block = 0; points = at (pos 0) (pos 0) ∷ at (pos 10) (pos 0) ∷ [] }
      ∷ record { block = 0; points = at (pos 0) (pos 0) ∷ at (pos 0) (pos 10) ∷ at (pos 10) (pos 10) ∷ at (pos 10) (pos 0) ∷ [] }
      ∷ record {
        block = 0;
        points = at (pos 0) (pos 0) ∷ at (pos 0) (negsuc 19) ∷ at (pos 10) (negsuc 19) ∷ at (pos 10) (pos 0) ∷ [];
      }
      ∷ record { block = 0; points = at (pos 10) (pos 0) ∷ at (pos 50) (pos 0) ∷ [] } ∷ [];
  starts = [];
  ends = [];
}

-- the shortest way and the line to the third junction are sewn again, and cuts of 2 and 8 halves say so
abbrev again : PieceCert
again = record {
  retraced = 5;
  walk = [];
  cuts = record { weight = 2; members = 0 ∷ [] } ∷ record { weight = 8; members = 2 ∷ [] } ∷ [];
}

-- Distinct numbers, which cannot be exchanged unnoticed.
pub known_summary : summary_text (summary_of 7 kite ((0 ∷ 1 ∷ 2 ∷ 3 ∷ []) ∷ []) (again ∷ []))
    ≡ codes "sample 7" ++ (newline
    ++ (codes "lines 4" ++ (newline ++ (codes "junctions 3" ++ (newline
    ++ (codes "odd 2" ++ (newline ++ (codes "pieces 1" ++ (newline
    ++ (codes "cost 13" ++ (newline ++ (codes "retraced 5" ++ (newline
    ++ (codes "penetrations 19" ++ (newline ++ (codes "cuts 10" ++ newline))))))))))))))))
unfolding digits
known_summary = refl
