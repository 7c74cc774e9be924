-- The choosing of starts and ends: labels decide which spots are connected.
use Rattle.std.proofs.Common.{◌≡◌, ◌<◌, ◌≤◌, ◌⊎◌, ℕ, ◌==◌, Bool, true, false, ◌||◌, List, [], ◌∷◌, ◌++◌, length, get_or, set, Some, Ok, Err, ◌≢◌, All, arith, refl, sym, ◌∙◌, ap, subst}
use Rattle.std.proofs.lemmas.List.Folds.{list_any-append}
use Rattle.line_graph.proofs.Names.{and_parts, eqb-false, or_parts, nat_tests, get_or-set_other, get_or-set_same, length-set, All-cons, All-head, All-nil, All-push, All-tail, all_pairs_push, slice_get-get_or, list_any, position_or_len, Point, is_same_point, Spot, LineValue, DrawingValue, optional_line_block, first_point, last_point, optional_line_points, endpoints, IsLineEnd, ArePieceLabels, AreConnected, IsPathOfLines, are_connected_spots, has_end_at_spot, same_is, same_number, get_or_default, passes_at_first, AreInDifferentPieces, is_junction, spot_added, same_test}
use Rattle.line_graph.specs.declared.chosen_spots.ChosenSpots.{ChosenSpots}
use Rattle.line_graph.specs.declared.draw_kind.DrawKind.TheVariants as kind
use Rattle.line_graph.specs.EndsMakerInvariants.{AreChosen, label_at}
use Rattle.line_graph.proofs.ConnectedSpotLemmas.{spots_are_joined}
use Rattle.line_graph.proofs.LabelLemmas.{joined_back, joined_on}
use Rattle.line_graph.proofs.LinkLemmas.{from_ends}

-- a test that one of them passes is passed below their count
found_within : {X : Type 0} (test : X → Bool) (xs : List X) → list_any test xs ≡ true → position_or_len test xs < length xs
found_within test [] found = absurd (cc)
found_within test (x ∷ xs) found = grind (arith, nat_tests, found_within test xs)

-- and where none does, there is no place for one
none_within : {X : Type 0} (test : X → Bool) (xs : List X) (t : Bool) → list_any test xs ≡ t → position_or_len test xs < length xs
    → t ≡ true
none_within test xs true is below = refl
none_within test [] false is below = absurd (omega (arith, below))
none_within test (x ∷ xs) false is below = grind (arith, nat_tests, or_parts (test x) (list_any test xs) is, none_within test xs false)

pub is_found : {X : Type 0} (test : X → Bool) (xs : List X) → position_or_len test xs < length xs → list_any test xs ≡ true
is_found test xs below = none_within test xs (list_any test xs) refl below

pub is_none : {X : Type 0} (test : X → Bool) (xs : List X) → position_or_len test xs ≡ length xs → list_any test xs ≡ false
is_none test xs end = grind (arith, nat_tests, found_within test xs)

-- a junction is an end of the first line there
junction_end : (d : DrawingValue) (s : Spot) → is_junction d.lines s ≡ true → IsLineEnd d (position_or_len (has_end_at_spot s) d.lines) s
junction_end d s found =
    let none : LineValue = record { block = 0; points = [] } in
    let i : ℕ = position_or_len (has_end_at_spot s) d.lines in
    let there : i < length d.lines = found_within (has_end_at_spot s) d.lines found in
    let line : LineValue = get_or d.lines i none in
    let is = slice_get-get_or d.lines i none there in
    let both = and_parts (line.block == s.block) (list_any (is_same_point s.at) (endpoints line.points))
    (passes_at_first (has_end_at_spot s) d.lines none there) in
    let end = from_ends line.points (is_same_point s.at) both.1 in
    record {
      there = there;
      block = ap optional_line_block is ∙ same_number line.block s.block both.0;
      at_end = subst (λ (ps : List Point). (first_point ps ≡ Some s.at) ⊎ (last_point ps ≡ Some s.at)) (sym (ap optional_line_points is))
          (subst (λ (p : Point). (first_point line.points ≡ Some p) ⊎ (last_point line.points ≡ Some p))
          (sym (same_is s.at end.point end.holds)) end.at_end);
    }

-- labels of connected lines are equal
chain_agrees : (d : DrawingValue) (labels : List ℕ) → ArePieceLabels d labels → (i j : ℕ) (chain : List ℕ) → IsPathOfLines d i chain j
    → get_or labels i 0 ≡ get_or labels j 0
chain_agrees d labels are i j [] leads = ap (λ (k : ℕ). get_or labels k 0) leads
chain_agrees d labels are i j (k ∷ chain) leads = are.agree i k leads.0 ∙ chain_agrees d labels are k j chain leads.1

-- lines with one label are connected
labels_join : (d : DrawingValue) (labels : List ℕ) → ArePieceLabels d labels → (i j : ℕ) → i < length d.lines → j < length d.lines
    → get_or labels i 0 ≡ get_or labels j 0 → AreConnected d i j
labels_join d labels are i j one two is =
    let to_i = are.reached i (omega (arith, are.sized, one)) in
    let to_j = are.reached j (omega (arith, are.sized, two)) in
    joined_on d i (get_or labels i 0) j (joined_back d (get_or labels i 0) i to_i)
    (subst (λ (k : ℕ). AreConnected d k j) (sym is) to_j)

-- junctions have one label where lines connect them
label_tells : (d : DrawingValue) (labels : List ℕ) → ArePieceLabels d labels → (a b : Spot) → is_junction d.lines a ≡ true
    → is_junction d.lines b ≡ true → (label_at d.lines labels a == label_at d.lines labels b) ≡ are_connected_spots d.lines a b
label_tells d labels are a b one two =
    let end_a = junction_end d a one in
    let end_b = junction_end d b two in
    let i : ℕ = position_or_len (has_end_at_spot a) d.lines in
    let j : ℕ = position_or_len (has_end_at_spot b) d.lines in
    let spots = spots_are_joined d a b i j end_a end_b in
    same_test (get_or labels i 0 == get_or labels j 0) (are_connected_spots d.lines a b)
    (λ is. spots.found (labels_join d labels are i j end_a.there end_b.there (same_number (get_or labels i 0) (get_or labels j 0) is)))
    (λ found. let chain = spots.led found in found_same (get_or labels i 0) (get_or labels j 0)
    (chain_agrees d labels are i j chain.0 chain.1))
  where
    found_same : (m n : ℕ) → m ≡ n → (m == n) ≡ true
    found_same m n is = grind (arith, nat_tests)

-- the label of a junction decides whether lines connect it with one of these
pub table_tells : (d : DrawingValue) (labels : List ℕ) → ArePieceLabels d labels → (spot : Spot) → is_junction d.lines spot ≡ true
    → (spots : List Spot) → All (λ (s : Spot). is_junction d.lines s ≡ true) spots
    → list_any (λ (s : Spot). label_at d.lines labels s == label_at d.lines labels spot) spots
    ≡ list_any (λ (s : Spot). are_connected_spots d.lines s spot) spots
table_tells d labels are spot here [] all = refl
table_tells d labels are spot here (s ∷ spots) all =
    rw (
      label_tells d labels are s spot (All-head (λ (k : Spot). is_junction d.lines k ≡ true) s spots all) here,
      table_tells d labels are spot here spots (All-tail (λ (k : Spot). is_junction d.lines k ≡ true) s spots all),
    ) refl

-- one junction more
pub one_chosen : (lines : List LineValue) (labels : List ℕ) (old new : ChosenSpots) (spot : Spot) → is_junction lines spot ≡ true
    → list_any (λ (s : Spot). are_connected_spots lines s spot) old.spots.items ≡ false
    → label_at lines labels spot < length old.taken.items → new.spots.items ≡ old.spots.items ++ spot ∷ []
    → new.taken.items ≡ set old.taken.items (label_at lines labels spot) true → AreChosen lines labels old → AreChosen lines labels new
one_chosen lines labels old new spot here apart below spots taken chosen = record {
  sized = ap length taken ∙ length-set old.taken.items (label_at lines labels spot) true ∙ chosen.sized;
  apart = subst (AreInDifferentPieces lines) (sym spots) (record {
    there = All-push (λ (s : Spot). is_junction lines s ≡ true) old.spots.items spot chosen.apart.there here;
    apart = all_pairs_push (λ (a b : Spot). are_connected_spots lines a b ≡ false) old.spots.items spot chosen.apart.apart
        (none_of old.spots.items apart);
  });
  each = λ label. ap (λ (t : List Bool). get_or t label false) taken
      ∙ (at_label label (label == label_at lines labels spot) refl
      ∙ ap (list_any (λ (s : Spot). label_at lines labels s == label)) (sym spots));
}
  where
    none_of : (spots : List Spot) → list_any (λ (s : Spot). are_connected_spots lines s spot) spots ≡ false
        → All (λ (s : Spot). are_connected_spots lines s spot ≡ false) spots
    none_of [] none = All-nil (λ (s : Spot). are_connected_spots lines s spot ≡ false)
    none_of (s ∷ rest) none = grind (arith, nat_tests, or_parts, All-cons, none_of rest)

    with_one : (label : ℕ) (t : Bool) → (label_at lines labels spot == label) ≡ t
        → list_any (λ (s : Spot). label_at lines labels s == label) (old.spots.items ++ spot ∷ [])
        ≡ (list_any (λ (s : Spot). label_at lines labels s == label) old.spots.items || (t || false))
    with_one label t is = grind (arith, nat_tests, list_any-append)

    or_true : (a : Bool) → true ≡ (a || (true || false))
    or_true true = refl
    or_true false = refl

    or_false : (a : Bool) → a ≡ (a || (false || false))
    or_false true = refl
    or_false false = refl

    turned : (m n : ℕ) (t : Bool) → (m == n) ≡ t → (n == m) ≡ t
    turned m n true is = grind (arith, nat_tests)
    turned m n false is = grind (arith, nat_tests)

    at_label : (label : ℕ) (t : Bool) → (label == label_at lines labels spot) ≡ t
        → get_or (set old.taken.items (label_at lines labels spot) true) label false
        ≡ list_any (λ (s : Spot). label_at lines labels s == label) (old.spots.items ++ spot ∷ [])
    at_label label true is = grind (arith, nat_tests, same_number label, get_or-set_same, or_true, with_one label true, turned label)
    at_label label false is = grind (arith, nat_tests, get_or-set_other, eqb-false label, or_false, with_one label false, turned label)

-- a junction that is to be added, whose first line was looked for
module _ (d : DrawingValue) (labels : List ℕ) (old : ChosenSpots) (spot : Spot) (line : ℕ) (lines : List LineValue)
    (are : ArePieceLabels d labels) (chosen : AreChosen d.lines labels old) (is : line ≡ position_or_len (has_end_at_spot spot) lines)
    (same_lines : lines ≡ d.lines) (within : line ≤ length lines) where
  place : line ≡ position_or_len (has_end_at_spot spot) d.lines
  place = is ∙ ap (position_or_len (has_end_at_spot spot)) same_lines

  -- it is none
  pub none_there : (slice : List LineValue) → slice ≡ d.lines → line ≡ length slice
      → spot_added d.lines old.spots.items spot ≡ Err kind.NoJunction
  none_there slice slice_is end = rw (is_none (has_end_at_spot spot) d.lines (sym place ∙ (end ∙ ap length slice_is))) refl

  here : (slice : List LineValue) → slice ≡ d.lines → line ≢ length slice → is_junction d.lines spot ≡ true
  here slice slice_is inside = grind (arith, nat_tests, is_found (has_end_at_spot spot) d.lines, place)

  label_is : get_or labels line 0 ≡ label_at d.lines labels spot
  label_is = ap (λ (k : ℕ). get_or labels k 0) place

  label_below : is_junction d.lines spot ≡ true → label_at d.lines labels spot < length old.taken.items
  label_below found = grind (arith, nat_tests, junction_end d spot found)

  -- the table records whether its piece has one
  told : is_junction d.lines spot ≡ true → (t e : Bool) → t ≡ get_or old.taken.items (get_or labels line 0) e
      → list_any (λ (s : Spot). are_connected_spots d.lines s spot) old.spots.items ≡ t
  told found t e at =
      let label : ℕ = label_at d.lines labels spot in
      let look : t ≡ get_or old.taken.items label false =
      at ∙ (ap (λ (k : ℕ). get_or old.taken.items k e) label_is ∙ get_or_default old.taken.items label e false (label_below found)) in
      sym (look ∙ (chosen.each label ∙ table_tells d labels are spot found old.spots.items chosen.apart.there))

  pub one_there : (slice : List LineValue) → slice ≡ d.lines → line ≢ length slice → (t : Bool)
      → t ≡ get_or old.taken.items (get_or labels line 0) t → t ≡ true
      → spot_added d.lines old.spots.items spot ≡ Err kind.EndRepeated
  one_there slice slice_is inside t at is = grind (arith, nat_tests, here slice slice_is inside, told)

  pub one_added : (slice : List LineValue) → slice ≡ d.lines → line ≢ length slice → (t : Bool)
      → t ≡ get_or old.taken.items (get_or labels line 0) t → t ≡ false → (more : List Spot) → more ≡ old.spots.items ++ spot ∷ []
      → spot_added d.lines old.spots.items spot ≡ Ok more
  one_added slice slice_is inside t at is more added = grind (arith, nat_tests, here slice slice_is inside, told)

  pub more_chosen : (slice : List LineValue) → slice ≡ d.lines → line ≢ length slice → (t : Bool)
      → t ≡ get_or old.taken.items (get_or labels line 0) t → t ≡ false → (new : ChosenSpots)
      → new.spots.items ≡ old.spots.items ++ spot ∷ [] → new.taken.items ≡ set old.taken.items (get_or labels line 0) true
      → AreChosen d.lines labels new
  more_chosen slice slice_is inside t at is new added set_is =
      grind (arith, nat_tests, here slice slice_is inside, one_chosen d.lines labels old new spot, told, label_below, label_is)
