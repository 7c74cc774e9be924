-- Graphs of pieces with the same lines, and closed walks that begin at another junction.
use Rattle.std.proofs.Common.{◌≡◌, ◌≢◌, ◌∙◌, ◌==◌, ◌<◌, ◌≤◌, ◌⊎◌, inl, inr, ℕ, zero, suc, ◌+◌, ◌-◌, Bool, true, false, ◌&&◌, ◌||◌, List, [], ◌∷◌, ◌++◌, Option, Some, None, length, map, get_or, slice_get, All, refl, ap, sym, subst, append_assoc, arith}
use Rattle.std.proofs.Math.Bool.{or_comm}
use Rattle.std.proofs.lemmas.Bool.{and_parts}
use Rattle.std.proofs.lemmas.List.Elements.{All-head, All-tail}
use Rattle.std.specs.List.{flat_map}
use Rattle.design_model.proofs.ListLemmas.{eq_self, number_found, one_of, same_number}
use Rattle.line_graph.proofs.CallerLemmas.{edge_found, lost, walk_append}
use Rattle.line_graph.specs.Drawings.{block_of, endpoints, first_point, last_point, optional_line_block, optional_line_points, points_of}
use Rattle.line_graph.specs.Needles.{needle_points}
use Rattle.line_graph.specs.PieceGraphs.{PieceValue, degree, degrees_from, edge_between, junction_number, junctions_of, one_if, with_points}
use Rattle.line_graph.specs.PieceWalks.{after_edge, are_same_junction, covers, edge_cost, edge_of, is_fitting_walk, is_line_passed, pass_end, pass_start, pass_start_on, pass_sum, walk_end_from, walk_start}
use Rattle.line_graph.specs.Pieces.{first_line}
use Rattle.line_graph.specs.ValidPieces.{IsValidPiece}
use Rattle.line_graph.specs.declared.edge.Edge.{Edge}
use Rattle.line_graph.specs.declared.pass.Pass.{Pass}
use Rattle.near_pieces.proofs.Names.{slice_get-get_or, Point, DrawingValue, LineValue, if_there, lines_numbered}
use Rattle.near_pieces.proofs.PieceSpanLemmas.{no_line}
use Rattle.near_pieces.specs.NearPieceLaws.{ClosedWalksBeginAnywhere, HasSameCosts, HasWalksOf, SameLinesHaveSameGraph}

-- The junctions of lines, and their edges.
abbrev line_ends : LineValue → List Point
line_ends line = endpoints line.points

abbrev line_edge : (step : ℕ) → List Point → LineValue → Edge
line_edge step junctions line = record {
  a = junction_number junctions (first_point line.points);
  b = junction_number junctions (last_point line.points);
  cost = length (needle_points step line.points) - 1;
}

module _ (d : DrawingValue) where
  points_are : (i : ℕ) → i < length d.lines → points_of d i ≡ (get_or d.lines i no_line).points
  points_are i below = ap optional_line_points (slice_get-get_or d.lines i no_line below)

  lines_from : (i : ℕ) (some : List ℕ) → i < length d.lines
      → lines_numbered d.lines (i ∷ some) ≡ get_or d.lines i no_line ∷ lines_numbered d.lines some
  lines_from i some below = ap (λ o. if_there o ++ lines_numbered d.lines some) (slice_get-get_or d.lines i no_line below)

  ends_by_lines : (some : List ℕ) → All (λ line. line < length d.lines) some
      → flat_map (λ line. endpoints (points_of d line)) some ≡ flat_map line_ends (lines_numbered d.lines some)
  ends_by_lines [] there = refl
  ends_by_lines (i ∷ some) there =
      let below = All-head (λ line. line < length d.lines) i some there in
      ap (λ ps. endpoints ps ++ flat_map (λ line. endpoints (points_of d line)) some) (points_are i below)
      ∙ ap (λ more. line_ends (get_or d.lines i no_line) ++ more)
      (ends_by_lines some (All-tail (λ line. line < length d.lines) i some there))
      ∙ sym (ap (flat_map line_ends) (lines_from i some below))

  edges_by_lines : (junctions : List Point) (some : List ℕ) → All (λ line. line < length d.lines) some
      → map (edge_between d junctions) some ≡ map (line_edge d.step junctions) (lines_numbered d.lines some)
  edges_by_lines junctions [] there = refl
  edges_by_lines junctions (i ∷ some) there =
      let below = All-head (λ line. line < length d.lines) i some there in
      ap (λ ps. line_edge d.step junctions (record { block = 0; points = ps }) ∷ map (edge_between d junctions) some) (points_are i below)
      ∙ ap (λ more. line_edge d.step junctions (get_or d.lines i no_line) ∷ more)
      (edges_by_lines junctions some (All-tail (λ line. line < length d.lines) i some there))
      ∙ sym (ap (map (line_edge d.step junctions)) (lines_from i some below))

  -- The block of the first of lines.
  abbrev first_block : List LineValue → ℕ
  first_block [] = 0
  first_block (line ∷ rest) = line.block

  block_by_lines : (some : List ℕ) → some ≢ [] → All (λ line. line < length d.lines) some
      → block_of d (first_line some) ≡ first_block (lines_numbered d.lines some)
  block_by_lines [] none there = absurd (none refl)
  block_by_lines (i ∷ some) none there =
      let below = All-head (λ line. line < length d.lines) i some there in
      ap optional_line_block (slice_get-get_or d.lines i no_line below) ∙ sym (ap first_block (lines_from i some below))

-- Pieces with the same lines have the same graph.
pub same_graph : SameLinesHaveSameGraph
same_graph d e some others step one two there here same = record {
  block = block_by_lines e others two here ∙ ap (first_block d) same ∙ sym (block_by_lines d some one there);
  junctions = junctions;
  edges = edges;
  degrees = ap (λ es. degrees_from es 0 (length (junctions_of e others))) edges
      ∙ ap (λ js. degrees_from (map (edge_between d (junctions_of d some)) some) 0 (length js)) junctions;
}
  where
    junctions : junctions_of e others ≡ junctions_of d some
    junctions = ap (with_points []) (ends_by_lines e others here ∙ ap (flat_map line_ends) same ∙ sym (ends_by_lines d some there))

    edges : map (edge_between e (junctions_of e others)) others ≡ map (edge_between d (junctions_of d some)) some
    edges = ap (λ js. map (edge_between e js) others) junctions
        ∙ edges_by_lines e (junctions_of d some) others here
        ∙ ap (λ n. map (line_edge n (junctions_of d some)) (lines_numbered e.lines others)) (sym step)
        ∙ ap (map (line_edge d.step (junctions_of d some))) same
        ∙ sym (edges_by_lines d (junctions_of d some) some there)

-- A walk in two parts passes what the parts pass, in either order.
passed_append : (line : ℕ) (xs ys : List Pass) → is_line_passed line (xs ++ ys) ≡ (is_line_passed line xs || is_line_passed line ys)
passed_append line [] ys = refl
passed_append line (x ∷ xs) ys = ap (λ t. x.line == line || t) (passed_append line xs ys)
    ∙ or_assoc (x.line == line) (is_line_passed line xs) (is_line_passed line ys)
  where
    or_assoc : (a b c : Bool) → (a || (b || c)) ≡ ((a || b) || c)
    or_assoc true b c = refl
    or_assoc false b c = refl

covers_turned : (lines : List ℕ) (xs ys : List Pass) → covers lines (ys ++ xs) ≡ covers lines (xs ++ ys)
covers_turned [] xs ys = refl
covers_turned (line ∷ lines) xs ys =
    ap (λ t. t && covers lines (ys ++ xs)) (passed_append line ys xs
    ∙ or_comm (is_line_passed line ys) (is_line_passed line xs) ∙ sym (passed_append line xs ys))
    ∙ ap (λ t. is_line_passed line (xs ++ ys) && t) (covers_turned lines xs ys)

sum_append : (lines : List ℕ) (edges : List Edge) (f : Edge → ℕ) (xs ys : List Pass)
    → pass_sum lines edges f (xs ++ ys) ≡ pass_sum lines edges f xs + pass_sum lines edges f ys
sum_append lines edges f [] ys = omega arith
sum_append lines edges f (x ∷ xs) ys = omega (arith, sum_append lines edges f xs ys)

-- A walk that passes a line has a pass along it.
record IsAt (line : ℕ) (walk : List Pass) : Type 0 where
  front : List Pass
  pass : Pass
  back : List Pass
  parts : walk ≡ front ++ pass ∷ back
  along : pass.line ≡ line

at_line : (line : ℕ) (walk : List Pass) → is_line_passed line walk ≡ true → IsAt line walk
at_line line [] passed = absurd cc
at_line line (x ∷ walk) passed = elim (one_of (x.line == line) (is_line_passed line walk) passed) [
  | inl here ↦ record { front = []; pass = x; back = walk; parts = refl; along = same_number x.line line here }
  | inr later ↦
      let rest = at_line line walk later in
      record {
        front = x ∷ rest.front;
        pass = rest.pass;
        back = rest.back;
        parts = ap (λ ps. x ∷ ps) rest.parts;
        along = rest.along;
      }
]

-- Each covered line is passed.
passed_at : (lines : List ℕ) (walk : List Pass) (k : ℕ) → covers lines walk ≡ true → k < length lines
    → is_line_passed (get_or lines k 0) walk ≡ true
passed_at [] walk k covered below = absurd (omega (arith, below))
passed_at (line ∷ lines) walk zero covered below = (and_parts (is_line_passed line walk) (covers lines walk) covered).0
passed_at (line ∷ lines) walk (suc k) covered below =
    passed_at lines walk k (and_parts (is_line_passed line walk) (covers lines walk) covered).1 (omega (arith, below))

-- An edge that has an end at a junction.
record HasEdge (edges : List Edge) (j : ℕ) : Type 0 where
  index : ℕ
  edge : Edge
  below : index < length edges
  at : slice_get edges index ≡ Some edge
  end : (edge.a ≡ j) ⊎ (edge.b ≡ j)

edge_at : (edges : List Edge) (j : ℕ) → 1 ≤ degree edges j → HasEdge edges j
edge_at [] j some = absurd (omega (arith, some))
edge_at (e ∷ edges) j some = by_tests (edge_at edges j) (e.a == j) (e.b == j) refl refl where
  by_tests : (1 ≤ degree edges j → HasEdge edges j) → (s t : Bool) → (e.a == j) ≡ s → (e.b == j) ≡ t → HasEdge (e ∷ edges) j
  by_tests later true t first second =
      record { index = 0; edge = e; below = omega arith; at = refl; end = inl (same_number e.a j first) }
  by_tests later false true first second =
      record { index = 0; edge = e; below = omega arith; at = refl; end = inr (same_number e.b j second) }
  by_tests later false false first second =
      let rest = later (omega (arith, some, ap one_if first, ap one_if second)) in
      record { index = suc rest.index; edge = rest.edge; below = omega (arith, rest.below); at = rest.at; end = rest.end }

-- A walk from and to s that comes to the junction j: its two parts.
record ComesBy (lines : List ℕ) (edges : List Edge) (s j : ℕ) (walk : List Pass) : Type 0 where
  front : List Pass
  back : List Pass
  parts : walk ≡ front ++ back
  there : walk_end_from lines edges (Some s) front ≡ Some j
  on : walk_end_from lines edges (Some j) back ≡ Some s

module _ (lines : List ℕ) (edges : List Edge) (s j : ℕ) where
  -- A pass along an edge with an end at j starts or ends there.
  pass_by : (e : Edge) (back : Bool) → (e.a ≡ j) ⊎ (e.b ≡ j) → (pass_start e back ≡ j) ⊎ (pass_end e back ≡ j)
  pass_by e true (inl is) = inr is
  pass_by e true (inr is) = inl is
  pass_by e false (inl is) = inl is
  pass_by e false (inr is) = inr is

  step_from : (e : Edge) (back : Bool) (m : ℕ) (rest : List Pass) (to : ℕ)
      → walk_end_from lines edges (after_edge (Some e) back m) rest ≡ Some to
      → (pass_start e back ≡ m) × (walk_end_from lines edges (Some (pass_end e back)) rest ≡ Some to)
  step_from e back m rest to is = by_test (pass_start e back == m) refl where
    by_test : (t : Bool) → (pass_start e back == m) ≡ t
        → (pass_start e back ≡ m) × (walk_end_from lines edges (Some (pass_end e back)) rest ≡ Some to)
    by_test true test = (same_number (pass_start e back) m test, (rw test at is))
    by_test false test = absurd (lost lines edges rest to (rw test at is))

  comes_by : (walk : List Pass) (line : ℕ) (e : Edge) → walk_end_from lines edges (Some s) walk ≡ Some s
      → IsAt line walk → edge_of lines edges line ≡ Some e → (e.a ≡ j) ⊎ (e.b ≡ j) → ComesBy lines edges s j walk
  comes_by walk line e closed at is end = from (walk_end_from lines edges (Some s) at.front) refl
    where
      whole : walk_end_from lines edges (walk_end_from lines edges (Some s) at.front) (at.pass ∷ at.back) ≡ Some s
      whole = sym (walk_append lines edges (Some s) at.front (at.pass ∷ at.back))
          ∙ ap (walk_end_from lines edges (Some s)) (sym at.parts) ∙ closed

      from : (o : Option ℕ) → walk_end_from lines edges (Some s) at.front ≡ o → ComesBy lines edges s j walk
      from None lost_there = absurd (lost lines edges (at.pass ∷ at.back) s (subst (λ o.
          walk_end_from lines edges o (at.pass ∷ at.back) ≡ Some s) lost_there whole))
      from (Some m) there =
          let on : walk_end_from lines edges (after_edge (Some e) at.pass.back m) at.back ≡ Some s =
          subst (λ o. walk_end_from lines edges (after_edge o at.pass.back m) at.back ≡ Some s)
          (ap (edge_of lines edges) at.along ∙ is)
          (subst (λ o. walk_end_from lines edges o (at.pass ∷ at.back) ≡ Some s) there whole) in
          let step = step_from e at.pass.back m at.back s on in
          elim (pass_by e at.pass.back end) [
            | inl starts ↦ record {
              front = at.front;
              back = at.pass ∷ at.back;
              parts = at.parts;
              there = there ∙ ap (λ k. Some k) (sym step.0 ∙ starts);
              on = subst (λ o. walk_end_from lines edges o (at.pass ∷ at.back) ≡ Some s)
                  (there ∙ ap (λ k. Some k) (sym step.0 ∙ starts)) whole;
            }
            | inr ends ↦ record {
              front = at.front ++ at.pass ∷ [];
              back = at.back;
              parts = at.parts ∙ sym (append_assoc at.front (at.pass ∷ []) at.back);
              there = walk_append lines edges (Some s) at.front (at.pass ∷ [])
                  ∙ ap (λ o. walk_end_from lines edges o (at.pass ∷ [])) there
                  ∙ ap (λ o. after_edge o at.pass.back m) (ap (edge_of lines edges) at.along ∙ is)
                  ∙ passes_on e at.pass.back m step.0 ∙ ap (λ k. Some k) ends;
              on = subst (λ k. walk_end_from lines edges (Some k) at.back ≡ Some s) ends step.1;
            }
          ]
        where
          passes_on : (e : Edge) (back : Bool) (m : ℕ) → pass_start e back ≡ m → after_edge (Some e) back m ≡ Some (pass_end e back)
          passes_on e back m is = rw (number_found (pass_start e back) m is) refl

-- A junction that two optional ones are.
pub same_junction : (x y : Option ℕ) → are_same_junction x y ≡ true → (s : ℕ) × (x ≡ Some s) × (y ≡ Some s)
same_junction None y is = absurd cc
same_junction (Some a) None is = absurd cc
same_junction (Some a) (Some b) is = (a, refl, ap (λ k. Some k) (sym (same_number a b is)))

module _ (p : PieceValue) (j : ℕ) (valid : IsValidPiece p) (no_start : p.start ≡ None) (no_end : p.end ≡ None)
    (there : j < length p.junctions) where
  abbrev q : PieceValue
  q = record p { start = Some j }

  -- A closed walk over the piece fits it once it starts at j.
  fits_from : (walk : List Pass) → walk_end_from p.lines p.edges (Some j) walk ≡ Some j → covers p.lines walk ≡ true
      → is_fitting_walk q walk ≡ true
  fits_from walk closed covered = rw (no_end, closed, covered, eq_self j) refl

  -- A closed walk turns to begin at j.
  begun : HasWalksOf p q
  begun walk fits =
      let both = and_parts (are_same_junction (walk_end_from p.lines p.edges (walk_start p.lines p.edges walk) walk)
      (walk_start p.lines p.edges walk)) (covers p.lines walk) (rw (no_start, no_end) at fits) in
      let ends = same_junction _ _ both.0 in
      let s : ℕ = ends.0 in
      let closed : walk_end_from p.lines p.edges (Some s) walk ≡ Some s =
      subst (λ o. walk_end_from p.lines p.edges o walk ≡ Some s) ends.2 ends.1 in
      let edge = edge_at p.edges j (valid.met j there) in
      let below : edge.index < length p.lines = omega (arith, edge.below, valid.beside) in
      let found = edge_found p.lines p.edges edge.index edge.edge valid.rising below edge.at in
      let at = at_line (get_or p.lines edge.index 0) walk (passed_at p.lines walk edge.index both.1 below) in
      let by = comes_by p.lines p.edges s j walk (get_or p.lines edge.index 0) edge.edge closed at found edge.end in (
        by.back ++ by.front,
        fits_from (by.back ++ by.front)
            (walk_append p.lines p.edges (Some j) by.back by.front ∙ ap (λ o. walk_end_from p.lines p.edges o by.front) by.on ∙ by.there)
            (covers_turned p.lines by.front by.back ∙ ap (covers p.lines) (sym by.parts) ∙ both.1),
        sum_append p.lines p.edges edge_cost by.back by.front ∙ omega arith
            ∙ sym (sum_append p.lines p.edges edge_cost by.front by.back) ∙ ap (pass_sum p.lines p.edges edge_cost) (sym by.parts),
      )

  -- A walk from j, which has a first pass, starts there.
  starts_at : (walk : List Pass) → walk_end_from p.lines p.edges (Some j) walk ≡ Some j → 1 ≤ length walk
      → walk_start p.lines p.edges walk ≡ Some j
  starts_at [] closed some = absurd (omega (arith, some))
  starts_at (pass ∷ rest) closed some = by_edge (edge_of p.lines p.edges pass.line) closed where
    by_edge : (o : Option Edge) → walk_end_from p.lines p.edges (after_edge o pass.back j) rest ≡ Some j
        → pass_start_on o pass.back ≡ Some j
    by_edge None closed = absurd (lost p.lines p.edges rest j closed)
    by_edge (Some e) closed = ap (λ k. Some k) (step_from p.lines p.edges j j e pass.back j rest j closed).0

  passes_some : (lines : List ℕ) (walk : List Pass) → 1 ≤ length lines → covers lines walk ≡ true → 1 ≤ length walk
  passes_some [] walk some covered = absurd (omega (arith, some))
  passes_some (line ∷ lines) [] some covered = absurd cc
  passes_some (line ∷ lines) (pass ∷ walk) some covered = omega arith

  -- A walk from j is closed.
  ended : HasWalksOf q p
  ended walk fits =
      let both = and_parts (are_same_junction (walk_end_from p.lines p.edges (Some j) walk) (Some j)) (covers p.lines walk)
      (rw no_end at fits) in
      let ends = same_junction _ _ both.0 in
      let closed : walk_end_from p.lines p.edges (Some j) walk ≡ Some j = ends.1 ∙ sym ends.2 in
      let start = starts_at walk closed (passes_some p.lines walk valid.some both.1) in
      (walk, rw (no_start, no_end, start, closed, both.1, eq_self j) refl, refl)

  pub same_costs : HasSameCosts p (record p { start = Some j })
  same_costs = record { there = begun; back = ended }

-- A closed walk may begin at any junction.
pub closed_walks_begin_anywhere : ClosedWalksBeginAnywhere
closed_walks_begin_anywhere p j valid no_start no_end there = same_costs p j valid no_start no_end there
