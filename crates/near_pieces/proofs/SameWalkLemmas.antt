-- Walks over pieces whose graphs are the same but for the indexes of their lines.
use Rattle.std.proofs.Common.{◌≡◌, ◌∙◌, ◌==◌, ◌<◌, ℕ, zero, suc, ◌+◌, Bool, true, false, List, [], ◌∷◌, Option, Some, None, length, map, get_or, if◌then◌else◌, nat_lt, refl, ap, sym, subst, arith}
use Rattle.std.proofs.lemmas.Bool.{and_parts, or_right}
use Rattle.std.specs.Option.{option_or}
use Rattle.design_model.proofs.ListLemmas.{differs_back, eq_self, same_number}
use Rattle.line_graph.proofs.CallerLemmas.{first_less, lost, rest_rises}
use Rattle.line_graph.specs.PieceGraphs.{PieceValue}
use Rattle.line_graph.specs.PieceWalks.{after_edge, all_greater, are_same_junction, covers, edge_cost, edge_of, edge_value, is_line_passed, is_strictly_increasing, pass_start_on, pass_sum, required_end, required_start, walk_end_from, walk_start}
use Rattle.line_graph.specs.ValidPieces.{IsValidPiece}
use Rattle.line_graph.specs.declared.edge.Edge.{Edge}
use Rattle.line_graph.specs.declared.pass.Pass.{Pass}
use Rattle.near_pieces.proofs.Names.{nat_tests}
use Rattle.near_pieces.proofs.WalkCostLemmas.{same_junction}
use Rattle.near_pieces.specs.NearPieceLaws.{HasWalksOf, SameGraphsHaveSameCosts}

-- The line of another list at the place that a line has in a list.
abbrev relabelled : List ℕ → List ℕ → ℕ → ℕ
relabelled [] ys line = line
relabelled (x ∷ xs) [] line = line
relabelled (x ∷ xs) (y ∷ ys) line = if line == x then y else relabelled xs ys line

abbrev relabelled_pass : List ℕ → List ℕ → Pass → Pass
relabelled_pass xs ys pass = record { line = relabelled xs ys pass.line; back = pass.back }

-- A line that has an edge, and the line in its place, which has the same.
record HasPlace (xs ys : List ℕ) (es : List Edge) (line : ℕ) (e : Edge) : Type 0 where
  at : edge_of ys es (relabelled xs ys line) ≡ Some e
  above : (z : ℕ) → all_greater z ys ≡ true → z < relabelled xs ys line

place_of_line : (xs ys : List ℕ) (es : List Edge) (line : ℕ) (e : Edge) → length xs ≡ length ys
    → is_strictly_increasing ys ≡ true → edge_of xs es line ≡ Some e → HasPlace xs ys es line e
place_of_line [] ys es line e long up is = absurd cc
place_of_line (x ∷ xs) [] es line e long up is = absurd (omega (arith, long))
place_of_line (x ∷ xs) (y ∷ ys) [] line e long up is = absurd cc
place_of_line (x ∷ xs) (y ∷ ys) (f ∷ es) line e long up is =
    by_test (λ later. place_of_line xs ys es line e (omega (arith, long)) (rest_rises y ys up) later) (line == x) refl where
      by_test : (edge_of xs es line ≡ Some e → HasPlace xs ys es line e) → (t : Bool) → (line == x) ≡ t
          → HasPlace (x ∷ xs) (y ∷ ys) (f ∷ es) line e
      by_test later true test = record {
        at = rw (test, eq_self y) (rw test at is);
        above = λ z greater. rw test (let less = (and_parts (nat_lt z y) (all_greater z ys) greater).0 in
            let below : z < y = grind (arith, nat_tests) in below);
      }
      by_test later false test =
          let rest = later (rw test at is) in
          let more : y < relabelled xs ys line = rest.above y (and_parts (all_greater y ys) (is_strictly_increasing ys) up).0 in
          record {
            at = rw test (rw (differs_back y (relabelled xs ys line) more) rest.at);
            above = λ z greater. rw test (rest.above z (and_parts (nat_lt z y) (all_greater z ys) greater).1);
          }

-- Each line of a list is relabelled as the line in its place.
relabelled_at : (xs ys : List ℕ) (k : ℕ) → length xs ≡ length ys → is_strictly_increasing xs ≡ true → k < length xs
    → relabelled xs ys (get_or xs k 0) ≡ get_or ys k 0
relabelled_at [] ys k long up below = absurd (omega (arith, below))
relabelled_at (x ∷ xs) [] k long up below = absurd (omega (arith, long))
relabelled_at (x ∷ xs) (y ∷ ys) zero long up below = rw (eq_self x) refl
relabelled_at (x ∷ xs) (y ∷ ys) (suc k) long up below =
    let inside : k < length xs = omega (arith, below) in
    rw (differs_back x (get_or xs k 0) (first_less x xs k up inside))
    (relabelled_at xs ys k (omega (arith, long)) (rest_rises x xs up) inside)

module _ (xs ys : List ℕ) (es : List Edge) (long : length xs ≡ length ys) (up : is_strictly_increasing xs ≡ true)
    (up_too : is_strictly_increasing ys ≡ true) where
  abbrev new : List Pass → List Pass
  new walk = map (relabelled_pass xs ys) walk

  -- A walk with other labels leads to the same junction, and costs as much.
  record IsSame (o : Option ℕ) (to : ℕ) (walk : List Pass) : Type 0 where
    end : walk_end_from ys es o (new walk) ≡ Some to
    start : walk_start ys es (new walk) ≡ walk_start xs es walk
    cost : pass_sum ys es edge_cost (new walk) ≡ pass_sum xs es edge_cost walk

  is_same : (o : Option ℕ) (to : ℕ) (walk : List Pass) → walk_end_from xs es o walk ≡ Some to → IsSame o to walk
  is_same o to [] is = record { end = is; start = refl; cost = refl }
  is_same None to (pass ∷ rest) is = absurd (lost xs es (pass ∷ rest) to is)
  is_same (Some at) to (pass ∷ rest) is =
      by_edge (λ o later. is_same o to rest later) (edge_of xs es pass.line) refl where
        by_edge : ((o : Option ℕ) → walk_end_from xs es o rest ≡ Some to → IsSame o to rest) → (f : Option Edge)
            → edge_of xs es pass.line ≡ f → IsSame (Some at) to (pass ∷ rest)
        by_edge later None none = absurd (lost xs es rest to
            (sym (ap (λ o. walk_end_from xs es (after_edge o pass.back at) rest) none) ∙ is))
        by_edge later (Some e) found =
            let place = place_of_line xs ys es pass.line e long up_too found in
            let after = later (after_edge (Some e) pass.back at)
            (sym (ap (λ o. walk_end_from xs es (after_edge o pass.back at) rest) found) ∙ is) in
            record {
              end = ap (λ o. walk_end_from ys es (after_edge o pass.back at) (new rest)) place.at ∙ after.end;
              start = ap (λ o. pass_start_on o pass.back) (place.at ∙ sym found);
              cost = ap (λ o. edge_value edge_cost o + pass_sum ys es edge_cost (new rest)) (place.at ∙ sym found)
                  ∙ ap (λ n. edge_value edge_cost (edge_of xs es pass.line) + n) after.cost;
            }

  passed_new : (line : ℕ) (walk : List Pass) → is_line_passed line walk ≡ true
      → is_line_passed (relabelled xs ys line) (new walk) ≡ true
  passed_new line [] passed = absurd cc
  passed_new line (pass ∷ walk) passed = by_test (passed_new line walk) (pass.line == line) refl where
    by_test : (is_line_passed line walk ≡ true → is_line_passed (relabelled xs ys line) (new walk) ≡ true) → (t : Bool)
        → (pass.line == line) ≡ t → is_line_passed (relabelled xs ys line) (new (pass ∷ walk)) ≡ true
    by_test later true test =
        rw (ap (relabelled xs ys) (same_number pass.line line test), eq_self (relabelled xs ys line)) refl
    by_test later false test = or_right (relabelled xs ys pass.line == relabelled xs ys line)
        (is_line_passed (relabelled xs ys line) (new walk)) (later (rw test at passed))

  covers_new : (some others : List ℕ) (walk : List Pass) → length some ≡ length others
      → ((k : ℕ) → k < length some → relabelled xs ys (get_or some k 0) ≡ get_or others k 0)
      → covers some walk ≡ true → covers others (new walk) ≡ true
  covers_new [] [] walk alike same covered = refl
  covers_new [] (y ∷ others) walk alike same covered = absurd (omega (arith, alike))
  covers_new (x ∷ some) [] walk alike same covered = absurd (omega (arith, alike))
  covers_new (x ∷ some) (y ∷ others) walk alike same covered =
      let both = and_parts (is_line_passed x walk) (covers some walk) covered in
      let here : is_line_passed y (new walk) ≡ true =
      subst (λ n. is_line_passed n (new walk) ≡ true) (same 0 (omega arith)) (passed_new x walk both.0) in
      rw here (covers_new some others walk (omega (arith, alike)) (λ k below. same (suc k) (omega (arith, below))) both.1)

-- Pieces with one list of edges, and with the same start and end, have walks of the same costs.
same_edges : (p q : PieceValue) → IsValidPiece p → IsValidPiece q → q.edges ≡ p.edges → q.start ≡ p.start → q.end ≡ p.end
    → HasWalksOf p q
same_edges p q valid valid_too edges start end walk fits =
    let both = and_parts (are_same_junction (walk_end_from p.lines p.edges (required_start p walk) walk) (required_end p walk))
    (covers p.lines walk) fits in
    let ends = same_junction _ _ both.0 in
    let long : length p.lines ≡ length q.lines = omega (arith, valid.beside, valid_too.beside, ap length edges) in
    let same = is_same p.lines q.lines p.edges long valid.rising valid_too.rising (required_start p walk) ends.0 walk ends.1 in
    let other : List Pass = map (relabelled_pass p.lines q.lines) walk in
    let covered : covers q.lines other ≡ true =
    covers_new p.lines q.lines p.edges long valid.rising valid_too.rising p.lines q.lines walk long
    (λ k below. relabelled_at p.lines q.lines k long valid.rising below) both.1 in
    let starts : option_or (option_or q.start q.end) (walk_start q.lines q.edges other) ≡ required_start p walk =
    rw (start, end, edges, same.start) refl in
    let stops : option_or (option_or q.end q.start) (walk_start q.lines q.edges other) ≡ Some ends.0 =
    rw (start, end, edges, same.start) ends.2 in
    (other, rw (starts, stops, edges, same.end, covered, eq_self ends.0) refl, rw edges same.cost)

-- Pieces with the same graph, and with the same start and end, have walks of the same costs.
pub same_graphs_have_same_costs : SameGraphsHaveSameCosts
same_graphs_have_same_costs p q valid valid_too same start end = record {
  there = same_edges p q valid valid_too same.edges start end;
  back = same_edges q p valid_too valid (sym same.edges) (sym start) (sym end);
}
