-- The certificate that is made for a piece proves its walk least, and can be printed.
use Rattle.std.proofs.Common.{◌≡◌, ◌≢◌, ◌≤◌, ◌<◌, ℕ, ◌+◌, ◌^◌, ◌==◌, Bool, true, false, cond, nat_le, nat_lt, List, [], ◌∷◌, length, get_or, Option, Some, None, All, arith, refl, subst}
use Rattle.route_core.proofs.Names.{nat_tests, and_parts, All-cons, All-from_get_or, Moat, Pair, PieceCert, Cut, BoundsTotal, HasCanonicalText, Edge, MAX_COST, MAX_LINES, Pass, IsValidPiece, PieceValue, after_edge, edge_of, walk_end_from, RowsValue, pair_costs, AreOddPairs, IsWalkBy, CertifiesLeastWalk, lost, All-get_or, ProvesLeast, IsOddCut, all_below, required_start, covers, required_end, is_walk_start_to_end, goes_from}
use Rattle.line_graph.specs.PieceWalks.{edge_cost, edge_value, is_fitting_walk, pass_sum, walk_cost}
use Rattle.line_graph.specs.ValidPieces.{all_costs_positive}
use Rattle.cut_certificate.specs.Lifts.{IsLifted}

-- least walks between the pairs cost no more than the lines
pub pairs_cost_few : (p : PieceValue) → IsValidPiece p → BoundsTotal
    → (rows : RowsValue) (pairs : List Pair) (moats : List Moat) (cuts : List Cut)
    → AreOddPairs p rows pairs moats → IsLifted p moats cuts → pair_costs rows pairs ≤ MAX_COST
pairs_cost_few p kept law rows pairs moats cuts matched lifted = grind (arith, nat_tests)

-- each edge costs a step at least
edge_costs : (ns : List ℕ) (es : List Edge) (line : ℕ) (e : Edge) → all_costs_positive es ≡ true → edge_of ns es line ≡ Some e → 1 ≤ e.cost
edge_costs [] es line e costs is = absurd (cc)
edge_costs (m ∷ ns) [] line e costs is = absurd (cc)
edge_costs (m ∷ ns) (x ∷ es) line e costs is =
    let parts = and_parts (nat_le 1 x.cost) (all_costs_positive es) costs in
    by_test (line == m) is (λ h. edge_costs ns es line e parts.1 h)
  where
    costly : (w : Edge) → nat_le 1 w.cost ≡ true → 1 ≤ w.cost
    costly w h = grind (arith, nat_tests)

    by_test : (t : Bool) → cond t (Some x) (edge_of ns es line) ≡ Some e → (edge_of ns es line ≡ Some e → 1 ≤ e.cost) → 1 ≤ e.cost
    by_test true is more =
        let same : x ≡ e = cc in
        subst (λ (w : Edge). 1 ≤ w.cost) same (costly x (and_parts (nat_le 1 x.cost) (all_costs_positive es) costs).0)
    by_test false is more = more is

-- a walk that leads somewhere has no more passes than it costs steps
passes_cost : (ns : List ℕ) (es : List Edge) → all_costs_positive es ≡ true → (at : Option ℕ) (ps : List Pass) (to : ℕ)
    → walk_end_from ns es at ps ≡ Some to → length ps ≤ pass_sum ns es edge_cost ps
passes_cost ns es costs at [] to is = omega arith
passes_cost ns es costs None (p ∷ ps) to is = absurd (lost ns es ps to is)
passes_cost ns es costs (Some at) (p ∷ ps) to is = by_edge (edge_of ns es p.line) refl is
    (λ next. λ h. passes_cost ns es costs next ps to h)
  where
    by_edge : (found : Option Edge) → edge_of ns es p.line ≡ found → walk_end_from ns es (after_edge found p.back at) ps ≡ Some to
        → ((next : Option ℕ) → walk_end_from ns es next ps ≡ Some to → length ps ≤ pass_sum ns es edge_cost ps)
        → length (p ∷ ps) ≤ edge_value edge_cost found + pass_sum ns es edge_cost ps
    by_edge None here is more = absurd (lost ns es ps to is)
    by_edge (Some e) here is more =
        omega (arith, edge_costs ns es p.line e costs here, more (after_edge (Some e) p.back at) is)

few_passes : (p : PieceValue) → IsValidPiece p → (walk : List Pass) → is_fitting_walk p walk ≡ true → length walk ≤ walk_cost p walk
few_passes p kept walk fitting =
    let there = goes_from (walk_end_from p.lines p.edges (required_start p walk) walk) (required_end p walk)
    (and_parts (is_walk_start_to_end p walk) (covers p.lines walk) fitting).0 in
    passes_cost p.lines p.edges kept.costs (required_start p walk) walk there.0 there.1

pub proves : (p : PieceValue) → IsValidPiece p → ProvesLeast → (rows : RowsValue) (pairs : List Pair) (moats : List Moat) (cert : PieceCert)
    → AreOddPairs p rows pairs moats → IsLifted p moats cert.cuts → IsWalkBy p rows pairs cert.walk → cert.retraced ≡ pair_costs rows pairs
    → CertifiesLeastWalk p cert
proves p kept law rows pairs moats cert matched lifted walk retraced = grind (arith, nat_tests, few_passes p kept cert.walk walk.fitting)

-- the line of an edge is one of the lines
line_below : (n : ℕ) (ns : List ℕ) (es : List Edge) (line : ℕ) (e : Edge) → all_below n ns ≡ true → edge_of ns es line ≡ Some e → line < n
line_below n [] es line e below is = absurd (cc)
line_below n (m ∷ ns) [] line e below is = absurd (cc)
line_below n (m ∷ ns) (x ∷ es) line e below is =
    let parts = and_parts (nat_lt m n) (all_below n ns) below in
    by_test (line == m) refl is (λ h. line_below n ns es line e parts.1 h)
  where
    less : (line m n : ℕ) → (line == m) ≡ true → nat_lt m n ≡ true → line < n
    less line m n is below = grind (arith, nat_tests)

    by_test : (t : Bool) → (line == m) ≡ t → cond t (Some x) (edge_of ns es line) ≡ Some e → (edge_of ns es line ≡ Some e → line < n)
        → line < n
    by_test true here is more = less line m n here (and_parts (nat_lt m n) (all_below n ns) below).0
    by_test false other is more = more is

-- the passes of a walk go along lines of the piece
passes_below : (n : ℕ) (ns : List ℕ) (es : List Edge) → all_below n ns ≡ true → (at : Option ℕ) (ps : List Pass) (to : ℕ)
    → walk_end_from ns es at ps ≡ Some to → All (λ (pass : Pass). pass.line < n) ps
passes_below n ns es below at [] to is = λ i. λ d. λ none. absurd (omega (arith, none))
passes_below n ns es below None (p ∷ ps) to is = absurd (lost ns es ps to is)
passes_below n ns es below (Some at) (p ∷ ps) to is = by_edge (edge_of ns es p.line) refl is
    (λ next. λ h. passes_below n ns es below next ps to h)
  where
    by_edge : (found : Option Edge) → edge_of ns es p.line ≡ found → walk_end_from ns es (after_edge found p.back at) ps ≡ Some to
        → ((next : Option ℕ) → walk_end_from ns es next ps ≡ Some to → All (λ (pass : Pass). pass.line < n) ps)
        → All (λ (pass : Pass). pass.line < n) (p ∷ ps)
    by_edge None here is more = absurd (lost ns es ps to is)
    by_edge (Some e) here is more =
        All-cons (λ (pass : Pass). pass.line < n) p ps (line_below n ns es p.line e below here) (more (after_edge (Some e) p.back at) is)

pub spelled : (p : PieceValue) → IsValidPiece p → (rows : RowsValue) (pairs : List Pair) (moats : List Moat) (cert : PieceCert)
    → IsLifted p moats cert.cuts → IsWalkBy p rows pairs cert.walk → HasCanonicalText cert
spelled p kept rows pairs moats cert lifted walk = record {
  some = some cert.walk walk.some;
  passes = few_passes cert.walk (passes_below MAX_LINES p.lines p.edges kept.lines_below (required_start p cert.walk) cert.walk there.0
      there.1);
  plain = lifted.plain;
  members = All-from_get_or (λ (cut : Cut). All (λ j. j + 1 < 2 ^ 32) cut.members) cert.cuts (record { weight = 0; members = [] })
      (λ i. λ below.
      let cut = All-get_or (IsOddCut p) cert.cuts i (record { weight = 0; members = [] }) below lifted.packing.odd in
      few_members (length p.junctions) (length p.lines) (get_or cert.cuts i (record { weight = 0; members = [] })).members
      kept.junctions_few kept.few cut.there);
}
  where
    there : (to : ℕ) × (walk_end_from p.lines p.edges (required_start p cert.walk) cert.walk ≡ Some to)
    there = goes_from (walk_end_from p.lines p.edges (required_start p cert.walk) cert.walk) (required_end p cert.walk)
        (and_parts (is_walk_start_to_end p cert.walk) (covers p.lines cert.walk) walk.fitting).0

    some : (ps : List Pass) → 1 ≤ length ps → ps ≢ []
    some [] h is = omega arith
    some (p ∷ ps) h is = cc

    few_passes : (ps : List Pass) → All (λ (pass : Pass). pass.line < 1024) ps → All (λ (pass : Pass). pass.line + 1 < 2 ^ 32) ps
    few_passes ps few = λ i. λ d. λ below. omega (arith, few i d below)

    few_members : (n lines : ℕ) (js : List ℕ) → n ≤ lines + 1 → lines ≤ 1024 → All (λ j. j < n) js → All (λ j. j + 1 < 2 ^ 32) js
    few_members n lines js a b few = λ i. λ d. λ below. omega (arith, few i d below, a, b)
