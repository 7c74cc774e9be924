-- A packing over the graph of a piece is one over its lines.
use Rattle.std.proofs.Common.{◌≡◌, ◌≤◌, ℕ, ◌+◌, ◌*◌, ◌%◌, Bool, cond, List, [], ◌∷◌, map, option_map, Option, Some, None, All, sum_by, arith, refl, ◌∙◌}
use Rattle.odd_cuts.proofs.Names.{nat_tests, All-cons, All-head, All-nil, All-tail, count_by, option_or, Point, Edge, closing_edge, edges_with_closing, one_if, edge_sum, IsValidPiece, Cut, has_member, load_on, IsOddCut, odd_held, All-weaker, edge_between, first_junction_among, junction_number, junctions_of, piece_graph}
use Rattle.line_graph.specs.Drawings.{DrawingValue, block_of}
use Rattle.line_graph.specs.DrawnWalks.{GivenPointsAreJunctions, given_point}
use Rattle.line_graph.specs.Pieces.{first_line}
use Rattle.line_graph.specs.LineNeedles.{cost_of_line}
use Rattle.odd_cuts.specs.DrawnCuts.{IsOddOver, PackingsAreOverLines, given_apart, leads_out}
use Rattle.odd_cuts.proofs.Crossing.{crossing}
use Rattle.odd_cuts.proofs.Degrees.{count_is, counted}
use Rattle.odd_cuts.proofs.Duality.{held_crossing, sum_append}

-- the edges that cross a set are those of the lines that lead out
lines_out : (d : DrawingValue) (js : List Point) (set : ℕ → Bool) (out : ℕ → Bool) (lines : List ℕ)
    → ((line : ℕ) → crossing set (edge_between d js line) ≡ one_if (out line))
    → edge_sum (crossing set) (map (edge_between d js) lines) ≡ counted out lines
lines_out d js set out [] each = refl
lines_out d js set out (line ∷ lines) each = rw (each line, lines_out d js set out lines each) (grind (arith, nat_tests))

-- the closing edge crosses a set that parts the start and the end
closing_out : (d : DrawingValue) (lines : List ℕ) (cut : Cut) (start end : Option Point)
    → edge_sum (crossing (has_member cut.members))
    (closing_edge (option_or (option_map (λ p. junction_number (junctions_of d lines) (Some p)) start)
    (option_map (λ p. junction_number (junctions_of d lines) (Some p)) end))
    (option_or (option_map (λ p. junction_number (junctions_of d lines) (Some p)) end)
    (option_map (λ p. junction_number (junctions_of d lines) (Some p)) start)))
    ≡ given_apart d lines cut start end
closing_out d lines cut None None = refl
closing_out d lines cut (Some p) None = grind (arith, nat_tests)
closing_out d lines cut None (Some q) = grind (arith, nat_tests)
closing_out d lines cut (Some p) (Some q) = grind (arith, nat_tests)

-- the edges that cross a cut, with the closing edge
crossings : GivenPointsAreJunctions → (d : DrawingValue) (lines : List ℕ) (cut : Cut)
    → edge_sum (crossing (has_member cut.members)) (edges_with_closing (piece_graph d lines))
    ≡ given_apart d lines cut (given_point d lines d.starts) (given_point d lines d.ends) + count_by (leads_out d lines cut) lines
crossings given d lines cut =
    let js : List Point = junctions_of d lines in
    let s = crossing (has_member cut.members) in
    let start = first_junction_among (block_of d (first_line lines)) js d.starts in
    let end = first_junction_among (block_of d (first_line lines)) js d.ends in
    sum_append s (closing_edge (option_or start end) (option_or end start)) (map (edge_between d js) lines)
    ∙ added (rw (given d lines d.starts, given d lines d.ends)
    (closing_out d lines cut (given_point d lines d.starts) (given_point d lines d.ends)))
    (lines_out d js (has_member cut.members) (leads_out d lines cut) lines (λ line. refl) ∙ count_is (leads_out d lines cut) lines)
  where
    added : {a b c e : ℕ} → a ≡ b → c ≡ e → a + c ≡ b + e
    added is are = rw (is, are) refl

-- the odd cuts of the graph are those over the lines
module _ (given : GivenPointsAreJunctions) (d : DrawingValue) (lines : List ℕ) (kept : IsValidPiece (piece_graph d lines)) where
  odd_over : (cut : Cut) → IsOddCut (piece_graph d lines) cut → IsOddOver d lines cut
  odd_over cut odd = record {
    there = odd.there;
    odd = same (odd_held (piece_graph d lines) cut.members)
        (edge_sum (crossing (has_member cut.members)) (edges_with_closing (piece_graph d lines)))
        (given_apart d lines cut (given_point d lines d.starts) (given_point d lines d.ends))
        (count_by (leads_out d lines cut) lines)
        odd.odd (held_crossing (piece_graph d lines) kept cut.members) (crossings given d lines cut);
  }
    where
      same : (h c g n : ℕ) → h % 2 ≡ 1 → h % 2 ≡ c % 2 → c ≡ g + n → (n + g) % 2 ≡ 1
      same h c g n one two three = omega arith

  odd_in_graph : (cut : Cut) → IsOddOver d lines cut → IsOddCut (piece_graph d lines) cut
  odd_in_graph cut odd = record {
    there = odd.there;
    odd = same (odd_held (piece_graph d lines) cut.members)
        (edge_sum (crossing (has_member cut.members)) (edges_with_closing (piece_graph d lines)))
        (given_apart d lines cut (given_point d lines d.starts) (given_point d lines d.ends))
        (count_by (leads_out d lines cut) lines)
        odd.odd (held_crossing (piece_graph d lines) kept cut.members) (crossings given d lines cut);
  }
    where
      same : (h c g n : ℕ) → (n + g) % 2 ≡ 1 → h % 2 ≡ c % 2 → c ≡ g + n → h % 2 ≡ 1
      same h c g n one two three = omega arith

-- the load on a line
abbrev load_over : DrawingValue → List ℕ → List Cut → ℕ → ℕ
load_over d lines cuts line = sum_by (λ (cut : Cut). cond (leads_out d lines cut line) cut.weight 0) cuts

-- the loads on edges are those on their lines
loads_over : (d : DrawingValue) (lines some : List ℕ) (cuts : List Cut)
    → All (λ (e : Edge). load_on cuts e ≤ 2 * e.cost) (map (edge_between d (junctions_of d lines)) some)
    → All (λ line. load_over d lines cuts line ≤ 2 * cost_of_line d line) some
loads_over d lines [] cuts all = All-nil (λ line. load_over d lines cuts line ≤ 2 * cost_of_line d line)
loads_over d lines (line ∷ some) cuts all =
    let edges = map (edge_between d (junctions_of d lines)) some in
    let e : Edge = edge_between d (junctions_of d lines) line in
    All-cons (λ line. load_over d lines cuts line ≤ 2 * cost_of_line d line) line some
    (All-head (λ (e : Edge). load_on cuts e ≤ 2 * e.cost) e edges all)
    (loads_over d lines some cuts (All-tail (λ (e : Edge). load_on cuts e ≤ 2 * e.cost) e edges all))

loads_in_graph : (d : DrawingValue) (lines some : List ℕ) (cuts : List Cut)
    → All (λ line. load_over d lines cuts line ≤ 2 * cost_of_line d line) some
    → All (λ (e : Edge). load_on cuts e ≤ 2 * e.cost) (map (edge_between d (junctions_of d lines)) some)
loads_in_graph d lines [] cuts all = All-nil (λ (e : Edge). load_on cuts e ≤ 2 * e.cost)
loads_in_graph d lines (line ∷ some) cuts all =
    let edges = map (edge_between d (junctions_of d lines)) some in
    let e : Edge = edge_between d (junctions_of d lines) line in
    All-cons (λ (e : Edge). load_on cuts e ≤ 2 * e.cost) e edges
    (All-head (λ line. load_over d lines cuts line ≤ 2 * cost_of_line d line) line some all)
    (loads_in_graph d lines some cuts (All-tail (λ line. load_over d lines cuts line ≤ 2 * cost_of_line d line) line some all))

pub packings_over_lines : GivenPointsAreJunctions → PackingsAreOverLines
packings_over_lines given d lines cuts kept = (
  λ packing. record {
    odd = All-weaker (IsOddCut (piece_graph d lines)) (IsOddOver d lines) (odd_over given d lines kept) cuts packing.odd;
    loads = loads_over d lines lines cuts packing.loads;
  },
  λ packing. record {
    odd = All-weaker (IsOddOver d lines) (IsOddCut (piece_graph d lines)) (odd_in_graph given d lines kept) cuts packing.odd;
    loads = loads_in_graph d lines lines cuts packing.loads;
  },
)
