-- The headline over values holds of the square: its thread is least by its one line, whatever a thread over it may be.
use Rattle.std.proofs.Common.{◌≡◌, ◌≤◌, ℕ, zero, suc, ◌*◌, Bool, true, false, List, [], ◌∷◌, Contains, Some, length, map, drop, reverse, sum_by, if◌then◌else◌, arith, refl, subst}
use Rattle.std.specs.List.{flat_map}
use Rattle.std.proofs.lemmas.List.{length-append}
use Rattle.std.proofs.lemmas.List.Elements.{All-cons, All-nil}
use Rattle.design_model.specs.declared.point.Point.{Point}
use Rattle.line_graph.specs.DrawnWalks.{IsThreadOver}
use Rattle.line_graph.specs.LineNeedles.{cost_of_line, needles_of_line}
use Rattle.line_graph.specs.Walks.{needles_of_pass, needles_of_walk}
use Rattle.line_graph.specs.declared.pass.Pass.{Pass}
use Rattle.odd_cuts.specs.DrawnCuts.{IsOddOver, leads_out}
use Rattle.odd_cuts.specs.declared.cut.Cut.{Cut}
use Rattle.route_verdict.specs.LeastRedwork.{IsLeastRedwork, IsLeastRoute, IsLeastThread}
use Rattle.stitch_cli.proofs.SquareRoute.{at, cert, design, forth, piece, square, square_piece}

-- a pass along one of the lines, and a line that the thread passes
abbrev Along : Pass → Type 0
Along pass = Contains piece pass.line

abbrev Passed : ℕ → Type 0
Passed line = Contains (map (λ (pass : Pass). pass.line) (forth ∷ [])) line

square_thread : IsThreadOver square piece (forth ∷ [])
square_thread = record {
  from = Some (at 0 0);
  to = Some (at 0 0);
  drawn = All-cons Along forth [] (0, omega arith, refl) (All-nil Along);
  covered = All-cons Passed 0 [] (0, omega arith, refl) (All-nil Passed);
  leads = (refl, refl);
  ends = refl;
}

-- a pass along the line has its five needle points, in either direction
five : 5 ≤ 5
five = omega arith

five_forth_and_back : (back : Bool) → 5 ≤ length (if back then reverse (needles_of_line square 0) else needles_of_line square 0)
five_forth_and_back true = five
five_forth_and_back false = five

only_line : (line : ℕ) → Contains piece line → 0 ≡ line
only_line line (zero, there, is) = is
only_line line (suc n, there, is) = absurd (omega (arith, there))

five_needles : (pass : Pass) → 0 ≡ pass.line → 5 ≤ length (needles_of_pass square pass)
five_needles pass is = subst
    (λ line. 5 ≤ length (if pass.back then reverse (needles_of_line square line) else needles_of_line square line)) is
    (five_forth_and_back pass.back)

-- any thread over the piece passes the line, so it has as many needle points
at_least_five : (other : List Pass) → IsThreadOver square piece other → 5 ≤ length (needles_of_walk square other)
at_least_five [] is = absurd (nothing (is.covered 0 0 (omega arith)))
  where
    nothing : Contains {X = ℕ} [] 0 → ⊥
    nothing there = omega (arith, there.1)
at_least_five (pass ∷ rest) is =
    let more : List Point = flat_map (λ next. drop 1 (needles_of_pass square next)) rest in
    omega (
      arith,
      length-append (needles_of_pass square pass) more,
      five_needles pass (only_line pass.line (is.drawn 0 pass (omega arith))),
    )

abbrev Load : ℕ → Type 0
Load line = sum_by (λ (cut : Cut). if leads_out square piece cut line then cut.weight else 0) [] ≤ 2 * cost_of_line square line

square_least : IsLeastThread square piece cert
square_least = record {
  thread = square_thread;
  least = at_least_five;
  penetrations = refl;
  packing = record {
    odd = All-nil (IsOddOver square piece);
    loads = All-cons Load 0 [] (omega arith) (All-nil Load);
  };
  total = refl;
}

pub square_redwork : IsLeastRedwork square design (cert ∷ [])
square_redwork = record {
  pieces = piece ∷ [];
  pieces_are = square_piece;
  threads = (square_least, tt);
  sewn = refl;
}

-- the headline over values is inhabited: the records of the square's DST file move by 30 or less
pub square_is_least_route : IsLeastRoute square design (cert ∷ []) 121 (at 30 0 ∷ at 0 30 ∷ [])
square_is_least_route = record { redwork = square_redwork; within = refl }
