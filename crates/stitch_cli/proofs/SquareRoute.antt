-- The square of 30 from the origin to the right and downwards, sewn with steps of 30: the drawing, its thread, and what the three
-- files hold. By hand: one line of four steps, which leads back, so five needle points and nothing sewn again.
use Rattle.std.proofs.Common.{◌≡◌, ◌<◌, ◌≢◌, ℕ, ◌+◌, pos, negsuc, false, List, [], ◌∷◌, All, Contains, codes, arith, refl, subst}
use Rattle.std.specs.List.Sorted.{IsStrictlyIncreasing}
use Rattle.std.proofs.lemmas.List.Elements.{All-cons, All-nil}
use Rattle.design_model.specs.Designs.{DesignValue}
use Rattle.design_model.specs.declared.command.Command.TheVariants.{Stitch, Jump, Trim}
use Rattle.design_model.specs.declared.point.Point.{Point}
use Rattle.line_graph.specs.Drawings.{DrawingValue}
use Rattle.line_graph.specs.Pieces.{AreConnected, ArePieces, first_line}
use Rattle.line_graph.specs.declared.pass.Pass.{Pass}
use Rattle.odd_cuts.specs.declared.certificate.PieceCert.{PieceCert}

abbrev pub at : ℕ → ℕ → Point
at x y = record { x = pos x; y = pos y }

abbrev pub square : DrawingValue
square = record {
  label = [];
  step = 30;
  threads = 5 ∷ [];
  lines = record { block = 0; points = at 0 0 ∷ at 30 0 ∷ at 30 30 ∷ at 0 30 ∷ at 0 0 ∷ [] } ∷ [];
  starts = [];
  ends = [];
}

-- the only piece, its thread, and its certificate
abbrev pub piece : List ℕ
piece = 0 ∷ []

abbrev pub forth : Pass
forth = record { line = 0; back = false }

abbrev pub cert : PieceCert
cert = record { retraced = 0; walk = forth ∷ []; cuts = [] }

abbrev pub design : DesignValue
design = record {
  label = [];
  threads = [];
  commands = Stitch (at 0 0) ∷ Stitch (at 30 0) ∷ Stitch (at 30 30) ∷ Stitch (at 0 30) ∷ Stitch (at 0 0)
      ∷ Jump (at 2 2) ∷ Jump (record { x = negsuc 1; y = negsuc 1 }) ∷ Trim ∷ Jump (at 0 0) ∷ [];
}

-- the bytes of the three files
abbrev pub drawing_file : List ℕ
drawing_file = codes "redwork 1\nstep 30\ncolor 5\nline 0 0 30 0 30 30 0 30 0 0\n"

abbrev pub cert_file : List ℕ
cert_file = codes "redwork-certificate 1\npiece 0\nwalk 1\nend\n"

-- the only line is in the piece, which is connected
below_one : (line : ℕ) → line < 1 → 0 ≡ line
below_one line less = omega (arith, less)

no_two : (i j : ℕ) → i < j → j < 1 → ⊥
no_two i j before there = omega (arith, before, there)

no_next : (k : ℕ) → k + 1 < 1 → ⊥
no_next k more = omega (arith, more)

pub square_piece : ArePieces square (piece ∷ [])
square_piece = record {
  filled = All-cons (λ lines. lines ≢ []) piece [] (λ is. cc) (All-nil (λ lines. lines ≢ []));
  there = All-cons (λ line. line < 1) 0 [] (omega arith) (All-nil (λ line. line < 1));
  covered = λ line less. subst (λ n. Contains {X = ℕ} (0 ∷ []) n) (below_one line less) (0, omega arith, refl);
  joined = All-cons (λ lines. All (AreConnected square (first_line lines)) lines) piece []
      (All-cons (AreConnected square 0) 0 [] ([], refl) (All-nil (AreConnected square 0)))
      (All-nil (λ lines. All (AreConnected square (first_line lines)) lines));
  apart = λ i j default before there. absurd (no_two i j before there);
  rising = All-cons IsStrictlyIncreasing piece [] (λ k more. absurd (no_next k more)) (All-nil IsStrictlyIncreasing);
  ordered = λ k more. absurd (no_next k more);
}
