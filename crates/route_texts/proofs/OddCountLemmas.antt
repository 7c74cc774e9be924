-- The number of odd junctions, from the degrees of all junctions.
use Rattle.std.proofs.Common.{◌≡◌, ℕ, zero, suc, ◌+◌, Bool, true, false, List, ◌∷◌, ◌++◌, Option, length, ap, ◌∙◌, refl, arith}
use Rattle.std.specs.List.{filter, range_with_len}
use Rattle.std.specs.Prelude.{cond}
use Rattle.line_graph.specs.declared.edge.Edge.{Edge}
use Rattle.line_graph.specs.ClosedDegrees.{closing_ends}
use Rattle.line_graph.specs.PieceGraphs.{PieceValue, closing_edge, degree, degrees_from, given_end, given_start, is_odd, odd_junctions, one_if}
use Rattle.line_graph.specs.ValidPieces.{IsValidPiece}
use Rattle.route_texts.specs.OddCounts.{odd_number}
use Rattle.line_graph.proofs.CallerLemmas.{degree_closed}

one_more : (test : Bool) (at : ℕ) (rest : List ℕ) → length (cond test (at ∷ rest) rest) ≡ one_if test + length rest
one_more true at rest = omega arith
one_more false at rest = omega arith

kept : (from to : Option ℕ) (es : List Edge) (at n : ℕ) → odd_number from to at (degrees_from es at n)
    ≡ length (filter (λ j. is_odd (degree (closing_edge from to ++ es) j)) (range_with_len at n))
kept from to es at zero = refl
kept from to es at (suc n) =
    let here = one_more (is_odd (degree (closing_edge from to ++ es) at)) at
    (filter (λ j. is_odd (degree (closing_edge from to ++ es) j)) (range_with_len (at + 1) n)) in
    let same : one_if (is_odd (closing_ends from to at + degree es at)) ≡ one_if (is_odd (degree (closing_edge from to ++ es) at)) =
    rw (degree_closed from to es at) refl in
    omega (arith, kept from to es (at + 1) n, here, same)

-- The degrees of a piece give the number of its odd junctions.
pub odds_counted : (p : PieceValue) → IsValidPiece p → odd_number (given_start p) (given_end p) 0 p.degrees ≡ length (odd_junctions p)
odds_counted p keeps =
    ap (λ degrees. odd_number (given_start p) (given_end p) 0 degrees) keeps.counted
    ∙ kept (given_start p) (given_end p) p.edges 0 (length p.junctions)
