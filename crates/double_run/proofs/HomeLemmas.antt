-- The first traversal, and the double walk of a finished one.
use Rattle.std.proofs.Common.{◌≡◌, ◌≤◌, ◌<◌, ℕ, zero, suc, ◌+◌, ◌*◌, ◌==◌, Bool, true, false, List, [], ◌∷◌, length, get_or, replicate, slice_get, Some, arith, refl, sym, ap, ◌∙◌, subst}
use Rattle.std.proofs.lemmas.List.{length-replicate}
use Rattle.double_run.proofs.Names.{nat_tests, All-get_or, Edge, Pass, IsValidPiece, PieceValue, one_if, first_line, is_fitting_walk, walk_end_from, IsPassedBothWays, IsDouble, directed_passes, without_ends, IsTraversalInvariant, is_visited, is_exhausted, passed_cost, root_junction, ends_are_below, edge_there, same_number, some_same, All-from_get_or, BeginsWith, covers, walk_start, is_line_passed, same_test}
use Rattle.double_run.proofs.MetLemmas.{passed_meets, spent_passes, touches_a, touches_b}

-- no junction is visited where no line was passed
none_met : (n : ℕ) (edges : List Edge) (j : ℕ) → is_visited (replicate n false) edges j ≡ false
none_met zero edges j = refl
none_met (suc n) [] j = refl
none_met (suc n) (e ∷ edges) j = none_met n edges j

none_passed : (n k : ℕ) → get_or (replicate n false) k false ≡ false
none_passed zero k = refl
none_passed (suc n) zero = refl
none_passed (suc n) (suc k) = none_passed n k

none_costs : (edges : List Edge) → passed_cost (replicate (length edges) false) edges ≡ 0
none_costs [] = refl
none_costs (e ∷ edges) = none_costs edges

costs_none : (edges : List Edge) → 0 + 0 ≡ 2 * passed_cost (replicate (length edges) false) edges
costs_none edges = rw (none_costs edges) refl

-- a traversal without a pass
pub begins_kept : (lines : List ℕ) (edges : List Edge) (root : ℕ)
    → IsTraversalInvariant lines edges [] [] (replicate (length edges) false) root root
begins_kept lines edges root = record {
  beside = length-replicate (length edges) false;
  led = refl;
  home = refl;
  legs = refl;
  counted = λ k. λ way. λ below. ap one_if (sym (none_passed (length edges) k));
  sums = costs_none edges;
  spent = λ j. λ met. absurd (no_way j met);
}
  where
    no_way : (j : ℕ) → is_visited (replicate (length edges) false) edges j ≡ true → ⊥
    no_way j met = apart (sym (none_met (length edges) edges j) ∙ met)
      where
        apart : false ≡ true → ⊥
        apart is = cc

-- a walk that begins with the first line starts at the root
starts_first : (p : PieceValue) (walk : List Pass) → IsValidPiece p → BeginsWith (first_line p.lines) walk
    → walk_start p.lines p.edges walk ≡ Some (root_junction p.edges)
starts_first p [] kept begins = absurd begins
starts_first p (x ∷ rest) kept begins = grind (arith, nat_tests)

-- a finished traversal passed all lines
pub home_passed : (p : PieceValue) (walk : List Pass) (is_line_passed : List Bool) (at : ℕ) → IsValidPiece p
    → IsTraversalInvariant p.lines p.edges walk [] is_line_passed (root_junction p.edges) at → is_exhausted is_line_passed p.edges at ≡ true
    → get_or is_line_passed 0 false ≡ true → (i : ℕ) → i < length p.edges → get_or is_line_passed i false ≡ true
home_passed p walk is_line_passed at kept k stuck first = all_passed
  where
    e0 : (e : Edge) × (slice_get p.edges 0 ≡ Some e)
    e0 = edge_there p.edges 0 (omega (arith, kept.some, kept.beside))

    spent : (j : ℕ) → is_visited is_line_passed p.edges j ≡ true → is_exhausted is_line_passed p.edges j ≡ true
    spent j met = by_test (at == j) refl
      where
        by_test : (t : Bool) → (at == j) ≡ t → is_exhausted is_line_passed p.edges j ≡ true
        by_test true is = subst (λ (n : ℕ). is_exhausted is_line_passed p.edges n ≡ true) (same_number at j is) stuck
        by_test false is = k.spent j met is refl

    none_leaves : (i : ℕ) (e : Edge) → slice_get p.edges i ≡ Some e
        → is_visited is_line_passed p.edges e.a ≡ is_visited is_line_passed p.edges e.b
    none_leaves i e there = same_test (is_visited is_line_passed p.edges e.a) (is_visited is_line_passed p.edges e.b)
        (λ met. passed_meets is_line_passed p.edges i e.b e
        (spent_passes is_line_passed p.edges i e.a e k.beside there (touches_a e) (spent e.a met)) there (touches_b e))
        (λ met. passed_meets is_line_passed p.edges i e.a e
        (spent_passes is_line_passed p.edges i e.b e k.beside there (touches_b e) (spent e.b met)) there (touches_a e))

    all_passed : (i : ℕ) → i < length p.edges → get_or is_line_passed i false ≡ true
    all_passed i below =
        let e = edge_there p.edges i below in
        let met : is_visited is_line_passed p.edges e.0.a ≡ true =
        kept.joined (is_visited is_line_passed p.edges) none_leaves e.0.a e0.0.a
        (ends_are_below (length p.junctions) p.edges i e.0 kept.ends e.1).0
        (ends_are_below (length p.junctions) p.edges 0 e0.0 kept.ends e0.1).0
        ∙ passed_meets is_line_passed p.edges 0 e0.0.a e0.0 first e0.1 (touches_a e0.0) in
        spent_passes is_line_passed p.edges i e.0.a e.0 k.beside e.1 (touches_a e.0) (spent e.0.a met)

-- the walk of a finished traversal
pub home_double : (p : PieceValue) (walk : List Pass) (is_line_passed : List Bool) (at : ℕ) → IsValidPiece p
    → IsTraversalInvariant p.lines p.edges walk [] is_line_passed (root_junction p.edges) at → is_exhausted is_line_passed p.edges at ≡ true
    → BeginsWith (first_line p.lines) walk → get_or is_line_passed 0 false ≡ true → IsDouble p walk
home_double p walk is_line_passed at kept k stuck begins first = record {
  closed = closes walk begins k.led;
  each = All-from_get_or (IsPassedBothWays walk) p.lines 0 goes;
  begins = begins;
}
  where
    is_root : at ≡ root_junction p.edges
    is_root = some_same at (root_junction p.edges) k.home

    closes : (w : List Pass) → BeginsWith (first_line p.lines) w → walk_end_from p.lines p.edges (Some (root_junction p.edges)) w ≡ Some at
        → walk_end_from p.lines p.edges (walk_start p.lines p.edges w) w ≡ walk_start p.lines p.edges w
    closes w h led = rw (starts_first p w kept h) (led ∙ ap (λ (n : ℕ). Some n) is_root)

    goes : (i : ℕ) → i < length p.lines → IsPassedBothWays walk (get_or p.lines i 0)
    goes i below =
        let is : get_or is_line_passed i false ≡ true = home_passed p walk is_line_passed at kept k stuck first i
        (omega (arith, below, kept.beside)) in
        record {
          forwards = bare _ (k.counted i false below ∙ ap one_if is);
          backwards = bare _ (k.counted i true below ∙ ap one_if is);
        }
      where
        bare : (n : ℕ) → n + 0 ≡ 1 → n ≡ 1
        bare n is = omega arith

-- a line that is passed in a direction is passed
is_passed : (line : ℕ) (walk : List Pass) → 1 ≤ directed_passes line false walk → is_line_passed line walk ≡ true
is_passed line [] some = absurd (omega (arith, some))
is_passed line (x ∷ walk) some = grind (arith, nat_tests, is_passed line walk)

-- so a double walk covers the piece
all_covered : (lines : List ℕ) (walk : List Pass) → ((k : ℕ) → k < length lines → IsPassedBothWays walk (get_or lines k 0))
    → covers lines walk ≡ true
all_covered [] walk each = refl
all_covered (line ∷ lines) walk each =
    rw (is_passed line walk (one _ (each 0 (omega arith)).forwards))
    (all_covered lines walk (λ k. λ below. each (suc k) (omega (arith, below))))
  where
    one : (n : ℕ) → n ≡ 1 → 1 ≤ n
    one n is = omega (arith, is)

-- and fits it
pub double_fits : (p : PieceValue) (walk : List Pass) → IsValidPiece p → IsDouble p walk → is_fitting_walk (without_ends p) walk ≡ true
double_fits p walk kept double = grind (arith, nat_tests, all_covered, All-get_or)
