-- Best ends beside the starts and ends of a drawing: each piece has its own, and no other piece changes.
use Rattle.std.proofs.Common.{◌≡◌, ◌≢◌, ◌∙◌, ◌<◌, ℕ, zero, suc, Bool, true, false, List, [], ◌∷◌, ◌++◌, Option, Some, None, length, take, drop, get_or, slice_get, if◌then◌else◌, nat_lt, All, AllPairs, Contains, refl, ap, ap₂, sym, subst, true≢false, arith}
use Rattle.std.proofs.lemmas.List.{take-append-drop}
use Rattle.std.proofs.lemmas.List.Elements.{All-contains, All-contains_itself, All-head, All-nil, All-cons, All-tail, All-take}
use Rattle.std.proofs.lemmas.List.Kept.{AllPairs-cons}
use Rattle.std.proofs.lemmas.List.Sorted.{All-permutation, IsPermutation-insert}
use Rattle.std.proofs.lemmas.Map.Keys.{IsDistinct-IsPermutation, IsDistinct-from_apart, apart_from_distinct}
use Rattle.std.proofs.lemmas.Option.{slice_get-get_or}
use Rattle.std.specs.List.{AllZip, insert, list_any, position_or_len}
use Rattle.std.specs.Prelude.{option_map}
use Rattle.design_model.proofs.CallerLemmas.{point_itself, same_back}
use Rattle.design_model.proofs.ListLemmas.{number_found, pairs_tail}
use Rattle.design_model.specs.declared.point.Point.{Point}
use Rattle.design_model.specs.Points.{is_same_point, origin}
use Rattle.line_graph.specs.ConnectedSpots.{SpotsAreConnected}
use Rattle.line_graph.specs.Drawings.{DrawingValue, KeepsDrawingLimits, block_of}
use Rattle.line_graph.specs.DrawnWalks.{GivenPointsAreJunctions, PiecesAreValid, given_point, is_junction_of}
use Rattle.line_graph.specs.PieceGraphs.{first_junction_among, junction_number, junctions_of, piece_graph}
use Rattle.line_graph.specs.Pieces.{AreConnected, ArePieces, IsPathOfLines, first_line}
use Rattle.line_graph.specs.PiecesOfDrawings.{ArePiecesOf, lines_of_pieces}
use Rattle.line_graph.specs.WalkEnds.{AreInDifferentPieces, are_connected_spots, is_junction, representative}
use Rattle.line_graph.specs.declared.piece.Piece.{Piece}
use Rattle.line_sections.proofs.CallerLemmas.{same_spot, spot_found}
use Rattle.line_sections.specs.Spots.{is_same_spot}
use Rattle.line_sections.specs.declared.spot.Spot.{Spot}
use Rattle.free_ends.proofs.Names.{All-filter, AreOddEnds, HasFreeEnds, PieceValue, WalkEnds, get_or-range_with_len, graph_of, length-range_with_len, odd_junctions, is_odd_junction, piece_with_ends, range_with_len}
use Rattle.free_ends.proofs.PieceSpotLemmas.{any_has, is_of_piece, junction_there, one_piece, stands_with}
use Rattle.free_ends.specs.FreedDrawings.{HasFoundEnds}
use Rattle.free_ends.specs.FreedLaws.{drawing_with_found}
use Rattle.free_ends.specs.PieceEnds.{AreFound, IsFound, ends_found, one_end, with_best_end, with_best_ends, with_point_spot}
use Rattle.free_ends.specs.declared.piece_ends.PieceEnds.{PieceEnds}
use Rattle.free_ends.specs.declared.piece_ends.PieceEnds.TheVariants as found

-- An item in a list is the same by whatever item is given for none.
item_same : {A : Type 0} (xs : List A) (k : ℕ) (x y : A) → k < length xs → get_or xs k x ≡ get_or xs k y
item_same [] k x y below = absurd (omega (arith, below))
item_same (z ∷ xs) zero x y below = refl
item_same (z ∷ xs) (suc k) x y below = item_same xs k x y (omega (arith, below))

-- In points that differ, each is the first of its kind.
number_at : (points : List Point) (j : ℕ) → AllPairs (λ a b. is_same_point a b ≡ false) points → j < length points
    → position_or_len (is_same_point (get_or points j origin)) points ≡ j
number_at [] j differ below = absurd (omega (arith, below))
number_at (p ∷ points) zero differ below = rw (point_itself p) refl
number_at (p ∷ points) (suc j) differ below =
    let inside : j < length points = omega (arith, below) in
    let apart : is_same_point (get_or points j origin) p ≡ false =
    same_back (get_or points j origin) p ∙ differ 0 (suc j) origin (omega arith) below in
    rw apart (omega (arith, number_at points j (pairs_tail (λ a b. is_same_point a b ≡ false) p points differ) inside))

module _ (d : DrawingValue) (piece : List ℕ) where
  abbrev pub has : Spot → Bool
  has spot = is_junction_of d piece spot

  -- No spot is a junction of a piece.
  abbrev pub IsClear : List Spot → Type 0
  IsClear spots = All (λ s. has s ≡ false) spots

  point_skips : (front back : List Spot) (s : Spot) → has s ≡ false
      → given_point d piece (front ++ s ∷ back) ≡ given_point d piece (front ++ back)
  point_skips [] back s none = rw none refl
  point_skips (x ∷ front) back s none = ap (λ o. if has x then Some x.at else o) (point_skips front back s none)

  point_found : (front back : List Spot) (s : Spot) → IsClear front → has s ≡ true
      → given_point d piece (front ++ s ∷ back) ≡ Some s.at
  point_found [] back s clear is = rw is refl
  point_found (x ∷ front) back s clear is =
      rw (All-head (λ s. has s ≡ false) x front clear) (point_found front back s (All-tail (λ s. has s ≡ false) x front clear) is)

  clear_if_none : (spots : List Spot) → given_point d piece spots ≡ None → IsClear spots
  clear_if_none [] none = All-nil _
  clear_if_none (x ∷ spots) none = by_test (clear_if_none spots) (has x) refl where
    by_test : (given_point d piece spots ≡ None → IsClear spots) → (t : Bool) → has x ≡ t → IsClear (x ∷ spots)
    by_test later true test = absurd (let never = rw test at none in let no : ⊥ = cc in no)
    by_test later false test = All-cons (λ s. has s ≡ false) x spots test (later (rw test at none))

  clear_insert : (spots : List Spot) (k : ℕ) (s : Spot) → IsClear spots → has s ≡ false → IsClear (insert spots k s)
  clear_insert spots k s clear none = All-permutation (λ x. has x ≡ false) (s ∷ spots) (insert spots k s)
      (IsPermutation-insert spots k s) (All-cons (λ x. has x ≡ false) s spots none clear)

  point_kept : (spots : List Spot) (k : ℕ) (s : Spot) → has s ≡ false
      → given_point d piece (insert spots k s) ≡ given_point d piece spots
  point_kept spots k s none = point_skips (take k spots) (drop k spots) s none ∙ ap (given_point d piece) (take-append-drop k spots)

  point_put : (spots : List Spot) (k : ℕ) (s : Spot) → IsClear spots → has s ≡ true
      → given_point d piece (insert spots k s) ≡ Some s.at
  point_put spots k s clear is =
      point_found (take k spots) (drop k spots) s (All-take (λ x. has x ≡ false) k spots clear) is

-- The start of a walk where the flag is true, else its end, by its point; or another point where there are no ends.
abbrev pub chosen_point : Bool → PieceValue → Option WalkEnds → Option Point → Option Point
chosen_point is_start p None other = other
chosen_point is_start p (Some ends) other = slice_get p.junctions (one_end is_start ends)

-- An odd junction is a junction.
odd_there : (p : PieceValue) (j : ℕ) → Contains (odd_junctions p) j → j < length p.junctions
odd_there p j has = All-contains (λ k. k < length p.junctions) (odd_junctions p) j
    (All-filter (is_odd_junction p) (λ k. k < length p.junctions) (range_with_len 0 (length p.junctions)) inside) has
  where
    inside : All (λ k. k < length p.junctions) (range_with_len 0 (length p.junctions))
    inside k e below =
        let size = length-range_with_len 0 (length p.junctions) in
        omega (arith, below, size, get_or-range_with_len 0 (length p.junctions) k e (omega (arith, below, size)))

end_there : (is_start : Bool) (p : PieceValue) (ends : WalkEnds) → AreOddEnds p (Some ends)
    → one_end is_start ends < length p.junctions
end_there true p ends odd = odd_there p ends.start odd.0
end_there false p ends odd = odd_there p ends.end odd.1

module _ (d : DrawingValue) (limits : KeepsDrawingLimits d) (connected : SpotsAreConnected) (pieces : List (List ℕ))
    (are : ArePieces d pieces) where
  -- Two spots stand with one, in either order.
  turned : (a b : Spot) → are_connected_spots d.lines a b ≡ are_connected_spots d.lines b a
  turned a b = both (representative d.lines a) (representative d.lines b) where
    by_tests : (x y : Spot) (s t : Bool) → is_same_spot x y ≡ s → is_same_spot y x ≡ t → s ≡ t
    by_tests x y true true one two = refl
    by_tests x y false false one two = refl
    by_tests x y true false one two =
        sym (subst (λ z. is_same_spot z x ≡ true) (same_spot x y one) (spot_found x)) ∙ two
    by_tests x y false true one two =
        sym one ∙ subst (λ z. is_same_spot z y ≡ true) (same_spot y x two) (spot_found y)

    both : (x y : Spot) → is_same_spot x y ≡ is_same_spot y x
    both x y = by_tests x y (is_same_spot x y) (is_same_spot y x) refl refl

  -- A junction of one piece is none of another.
  of_other : (p q : List ℕ) → Contains pieces p → Contains pieces q → q ≢ p → (s : Spot) → is_junction_of d p s ≡ true
      → is_junction_of d q s ≡ false
  of_other p q one two differ s is = by_test (is_junction_of d q s) refl where
    by_test : (t : Bool) → is_junction_of d q s ≡ t → is_junction_of d q s ≡ false
    by_test false test = test
    by_test true test = absurd (differ (one_piece d limits connected pieces are q p two one
        (sym (stands_with d limits connected pieces are q two s test) ∙ stands_with d limits connected pieces are p one s is)))

  -- A junction of a piece that has no spot yet is apart from all spots.
  apart_from : (piece : List ℕ) → Contains pieces piece → (s : Spot) → is_junction_of d piece s ≡ true → (spots : List Spot)
      → All (λ x. is_junction d.lines x ≡ true) spots → IsClear d piece spots
      → All (λ x. are_connected_spots d.lines s x ≡ false) spots
  apart_from piece in_pieces s is spots there clear k e below = by_test (are_connected_spots d.lines s x) refl where
    x : Spot
    x = get_or spots k e

    by_test : (t : Bool) → are_connected_spots d.lines s x ≡ t → are_connected_spots d.lines s x ≡ false
    by_test false test = test
    by_test true test =
        let same = same_spot (representative d.lines s) (representative d.lines x) test in
        absurd (true≢false (sym (is_of_piece d limits connected pieces are piece in_pieces x (there k e below)
        (sym same ∙ stands_with d limits connected pieces are piece in_pieces s is)) ∙ clear k e below))

  put_fits : (piece : List ℕ) → Contains pieces piece → (spots : List Spot) (k : ℕ) (s : Spot)
      → AreInDifferentPieces d.lines spots → IsClear d piece spots → is_junction_of d piece s ≡ true
      → AreInDifferentPieces d.lines (insert spots k s)
  put_fits piece in_pieces spots k s fits clear is = record {
    there = All-permutation (λ x. is_junction d.lines x ≡ true) (s ∷ spots) (insert spots k s) (IsPermutation-insert spots k s)
        (All-cons (λ x. is_junction d.lines x ≡ true) s spots
        (junction_there d limits connected pieces are piece in_pieces s is) fits.there);
    apart = λ i j e less below. apart_from_distinct (are_connected_spots d.lines) (insert spots k s) i j e
        (IsDistinct-IsPermutation (are_connected_spots d.lines) turned (s ∷ spots) (insert spots k s) (IsPermutation-insert spots k s)
        (IsDistinct-from_apart (are_connected_spots d.lines) (s ∷ spots)
        (AllPairs-cons (λ a b. are_connected_spots d.lines a b ≡ false) s spots
        (apart_from piece in_pieces s is spots fits.there clear) fits.apart))) less below;
  }

  -- Spots with one more for a piece, or with none more.
  record IsPut (piece : List ℕ) (at : Option Point) (old new : List Spot) : Type 0 where
    fits : AreInDifferentPieces d.lines new
    own : given_point d piece new ≡ at
    others : (q : List ℕ) → Contains pieces q → q ≢ piece → given_point d q new ≡ given_point d q old
    clear : (q : List ℕ) → Contains pieces q → q ≢ piece → IsClear d q old → IsClear d q new

  is_put : (is_start : Bool) (p : PieceValue) → p ≡ piece_graph d p.lines → Contains pieces p.lines → (ends : Option WalkEnds)
      → AreOddEnds p ends → (spots : List Spot) → AreInDifferentPieces d.lines spots
      → ((some : WalkEnds) → ends ≡ Some some → IsClear d p.lines spots)
      → IsPut p.lines (chosen_point is_start p ends (given_point d p.lines spots)) spots (with_best_end is_start spots p ends)
  is_put is_start p is in_pieces None odd spots fits clear =
      record { fits = fits; own = refl; others = λ q has differ. refl; clear = λ q has differ before. before }
  is_put is_start p is in_pieces (Some ends) odd spots fits clear =
      subst (λ (o : Option Point). IsPut p.lines o spots (with_point_spot p.block spots o)) (sym there) (record {
        fits = put_fits p.lines in_pieces spots index spot fits free own;
        own = point_put d p.lines spots index spot free own;
        others = λ q has differ. point_kept d q spots index spot (of_other p.lines q in_pieces has differ spot own);
        clear = λ q has differ before. clear_insert d q spots index spot before (of_other p.lines q in_pieces has differ spot own);
      })
    where
      j : ℕ
      j = one_end is_start ends

      below : j < length p.junctions
      below = end_there is_start p ends odd

      at : Point
      at = get_or p.junctions j origin

      there : slice_get p.junctions j ≡ Some at
      there = slice_get-get_or p.junctions j origin below

      spot : Spot
      spot = record { block = p.block; at = at }

      index : ℕ
      index = position_or_len (λ (one : Spot). nat_lt p.block one.block) spots

      free : IsClear d p.lines spots
      free = clear ends refl

      own : is_junction_of d p.lines spot ≡ true
      own =
          let block : p.block ≡ block_of d (first_line p.lines) = ap (λ (g : PieceValue). g.block) is in
          let junctions : p.junctions ≡ junctions_of d p.lines = ap (λ (g : PieceValue). g.junctions) is in
          let listed : list_any (is_same_point at) (junctions_of d p.lines) ≡ true =
          subst (λ js. list_any (is_same_point at) js ≡ true) junctions
          (any_has (is_same_point at) p.junctions at (j, below, item_same p.junctions j at origin below) (point_itself at)) in
          rw (number_found p.block (block_of d (first_line p.lines)) block, listed) refl

  -- Pieces of the drawing, none of which comes twice.
  abbrev AreOurs : List Piece → Type 0
  AreOurs [] = Unit {0}
  AreOurs (p ∷ ps) = Contains pieces p.lines × (graph_of p ≡ piece_graph d p.lines)
      × All (λ (q : Piece). q.lines ≢ p.lines) ps × AreOurs ps

  -- Pieces without start and end have no spot.
  abbrev AreClear : List Piece → List Spot → Type 0
  AreClear [] spots = Unit {0}
  AreClear (p ∷ ps) spots = (HasFreeEnds (graph_of p) → IsClear d p.lines spots) × AreClear ps spots

  still_clear : (p : Piece) (ps : List Piece) (old new : List Spot) → All (λ (q : Piece). q.lines ≢ p.lines) ps → AreOurs ps
      → ((q : List ℕ) → Contains pieces q → q ≢ p.lines → IsClear d q old → IsClear d q new) → AreClear ps old → AreClear ps new
  still_clear p [] old new differ ours keeps clear = tt
  still_clear p (q ∷ ps) old new differ ours keeps clear = (
    λ free. keeps q.lines ours.0 (All-head (λ (r : Piece). r.lines ≢ p.lines) q ps differ) (clear.0 free),
    still_clear p ps old new (All-tail (λ (r : Piece). r.lines ≢ p.lines) q ps differ) ours.3 keeps clear.1,
  )

  -- What is chosen of pieces that had the points of some spots.
  abbrev AreChosen : Bool → List Piece → List PieceEnds → (old new : List Spot) → Type 0
  AreChosen is_start ps fs old new = AllZip (λ p f. given_point d p.lines new
      ≡ chosen_point is_start (graph_of p) (ends_found f) (given_point d p.lines old)) ps fs

  chosen_before : (is_start : Bool) (p : Piece) (ps : List Piece) (fs : List PieceEnds) (old mid new : List Spot)
      → All (λ (q : Piece). q.lines ≢ p.lines) ps → AreOurs ps
      → ((q : List ℕ) → Contains pieces q → q ≢ p.lines → given_point d q mid ≡ given_point d q old)
      → AreChosen is_start ps fs mid new → AreChosen is_start ps fs old new
  chosen_before is_start p [] [] old mid new differ ours keeps are = are
  chosen_before is_start p [] (f ∷ fs) old mid new differ ours keeps are = are
  chosen_before is_start p (q ∷ ps) [] old mid new differ ours keeps are = are
  chosen_before is_start p (q ∷ ps) (f ∷ fs) old mid new differ ours keeps are = (
    are.0 ∙ ap (chosen_point is_start (graph_of q) (ends_found f))
        (keeps q.lines ours.0 (All-head (λ (r : Piece). r.lines ≢ p.lines) q ps differ)),
    chosen_before is_start p ps fs old mid new (All-tail (λ (r : Piece). r.lines ≢ p.lines) q ps differ) ours.3 keeps are.1,
  )

  -- Spots with the best ones of pieces.
  record ArePut (is_start : Bool) (ps : List Piece) (fs : List PieceEnds) (old new : List Spot) : Type 0 where
    fits : AreInDifferentPieces d.lines new
    others : (q : List ℕ) → Contains pieces q → All (λ (p : Piece). q ≢ p.lines) ps → given_point d q new ≡ given_point d q old
    chosen : AreChosen is_start ps fs old new

  -- What is found of a piece are odd ends, and only where it has neither start nor end.
  found_odd : (p : PieceValue) (f : PieceEnds) → IsFound p f → AreOddEnds p (ends_found f)
  found_odd p found.Given is = tt
  found_odd p (found.Best best) is = is.1.ends.odd
  found_odd p found.TooMany is = tt

  found_free : (p : PieceValue) (f : PieceEnds) (some : WalkEnds) → IsFound p f → ends_found f ≡ Some some → HasFreeEnds p
  found_free p found.Given some is ends = absurd (let no : ⊥ = cc in no)
  found_free p (found.Best best) some is ends = is.0
  found_free p found.TooMany some is ends = absurd (let no : ⊥ = cc in no)

  are_put : (is_start : Bool) (ps : List Piece) (fs : List PieceEnds) (spots : List Spot) → AreOurs ps → AreFound ps fs
      → AreClear ps spots → AreInDifferentPieces d.lines spots
      → ArePut is_start ps fs spots (with_best_ends is_start spots ps fs)
  are_put is_start [] [] spots ours founds clear fits = record { fits = fits; others = λ q has differ. refl; chosen = tt }
  are_put is_start [] (f ∷ fs) spots ours founds clear fits = absurd founds
  are_put is_start (p ∷ ps) [] spots ours founds clear fits = absurd founds
  are_put is_start (p ∷ ps) (f ∷ fs) spots ours founds clear fits =
      let mid : List Spot = with_best_end is_start spots (graph_of p) (ends_found f) in
      let one : IsPut p.lines (chosen_point is_start (graph_of p) (ends_found f) (given_point d p.lines spots)) spots mid =
      is_put is_start (graph_of p) ours.1 ours.0 (ends_found f) (found_odd (graph_of p) f founds.0) spots fits
      (λ some is. clear.0 (found_free (graph_of p) f some founds.0 is)) in
      let rest : ArePut is_start ps fs mid (with_best_ends is_start mid ps fs) =
      are_put is_start ps fs mid ours.3 founds.1 (still_clear p ps spots mid ours.2 ours.3 one.clear clear.1) one.fits in
      record {
        fits = rest.fits;
        others = λ q has differ. rest.others q has (All-tail (λ (r : Piece). q ≢ r.lines) p ps differ)
            ∙ one.others q has (All-head (λ (r : Piece). q ≢ r.lines) p ps differ);
        chosen = (
          rest.others p.lines ours.0 (λ k e below. λ same. ours.2 k e below (sym same)) ∙ one.own,
          chosen_before is_start p ps fs spots mid (with_best_ends is_start mid ps fs) ours.2 ours.3 one.others rest.chosen,
        );
      }

-- The pieces of a drawing are its own, and none comes twice.
module _ (d : DrawingValue) (all : List Piece) (are : ArePiecesOf d all) where
  lists_have : (ps : List Piece) (p : Piece) → Contains ps p → Contains (lines_of_pieces ps) p.lines
  lists_have [] p (k, below, is) = absurd (omega (arith, below))
  lists_have (q ∷ ps) p (zero, below, is) = (0, omega arith, ap (λ (x : Piece). x.lines) is)
  lists_have (q ∷ ps) p (suc k, below, is) =
      let rest = lists_have ps p (k, omega (arith, below), is) in (suc rest.0, omega (arith, rest.1), rest.2)

  differ_from : (p : Piece) (ps : List Piece)
      → All (λ b. AreConnected d (first_line p.lines) (first_line b) → ⊥) (lines_of_pieces ps)
      → All (λ (q : Piece). q.lines ≢ p.lines) ps
  differ_from p [] apart = All-nil _
  differ_from p (q ∷ ps) apart = All-cons (λ (r : Piece). r.lines ≢ p.lines) q ps
      (λ same. All-head (λ b. AreConnected d (first_line p.lines) (first_line b) → ⊥) q.lines (lines_of_pieces ps) apart
      ([], ap first_line (sym same)))
      (differ_from p ps (All-tail (λ b. AreConnected d (first_line p.lines) (first_line b) → ⊥) q.lines (lines_of_pieces ps) apart))

  all_ours : (limits : KeepsDrawingLimits d) (connected : SpotsAreConnected) (ps : List Piece) → All (Contains all) ps
      → All (λ (p : Piece). graph_of p ≡ piece_graph d p.lines) ps
      → AllPairs (λ a b. AreConnected d (first_line a) (first_line b) → ⊥) (lines_of_pieces ps)
      → AreOurs d limits connected (lines_of_pieces all) are.are ps
  all_ours limits connected [] has graphs apart = tt
  all_ours limits connected (p ∷ ps) has graphs apart = (
    lists_have all p (All-head (Contains all) p ps has),
    All-head (λ (q : Piece). graph_of q ≡ piece_graph d q.lines) p ps graphs,
    differ_from p ps (λ k e below. apart 0 (suc k) e (omega arith) (omega (arith, below))),
    all_ours limits connected ps (All-tail (Contains all) p ps has)
        (All-tail (λ (q : Piece). graph_of q ≡ piece_graph d q.lines) p ps graphs)
        (pairs_tail (λ a b. AreConnected d (first_line a) (first_line b) → ⊥) p.lines (lines_of_pieces ps) apart),
  )

-- A drawing with other starts and ends has the same pieces.
module _ (d : DrawingValue) (starts ends : List Spot) where
  abbrev new : DrawingValue
  new = record d { starts = starts; ends = ends }

  path_there : (i : ℕ) (chain : List ℕ) (j : ℕ) → IsPathOfLines d i chain j → IsPathOfLines new i chain j
  path_there i [] j is = is
  path_there i (k ∷ chain) j (t, later) =
      (record { one = t.one; other = t.other; one_is = t.one_is; other_is = t.other_is; touch = t.touch }, path_there k chain j later)

  path_back : (i : ℕ) (chain : List ℕ) (j : ℕ) → IsPathOfLines new i chain j → IsPathOfLines d i chain j
  path_back i [] j is = is
  path_back i (k ∷ chain) j (t, later) =
      (record { one = t.one; other = t.other; one_is = t.one_is; other_is = t.other_is; touch = t.touch }, path_back k chain j later)

  same_pieces : (pieces : List (List ℕ)) → ArePieces d pieces → ArePieces new pieces
  same_pieces pieces are = record {
    filled = are.filled;
    there = are.there;
    covered = are.covered;
    joined = λ k e below. λ n x inside. (
        let led = are.joined k e below n x inside in (led.0, path_there (first_line (get_or pieces k e)) led.0 _ led.1));
    apart = λ i j e less below led. are.apart i j e less below
        (led.0, path_back (first_line (get_or pieces i e)) led.0 (first_line (get_or pieces j e)) led.1);
    rising = are.rising;
    ordered = are.ordered;
  }

-- Where no start or end is given, no spot is a junction.
none_given : (o : Option Point) (f : Point → ℕ) → option_map f o ≡ None → o ≡ None
none_given None f is = refl
none_given (Some p) f is = absurd (let no : ⊥ = cc in no)

module _ (d : DrawingValue) (limits : KeepsDrawingLimits d) (connected : SpotsAreConnected) (numbers : GivenPointsAreJunctions)
    (all : List Piece) (are : ArePiecesOf d all) where
  all_clear : (spots : List Spot) (ps : List Piece) → AreOurs d limits connected (lines_of_pieces all) are.are ps
      → ((p : Piece) → graph_of p ≡ piece_graph d p.lines → HasFreeEnds (graph_of p)
      → first_junction_among (block_of d (first_line p.lines)) (junctions_of d p.lines) spots ≡ None)
      → AreClear d limits connected (lines_of_pieces all) are.are ps spots
  all_clear spots [] ours none = tt
  all_clear spots (p ∷ ps) ours none = (
    λ free. clear_if_none d p.lines spots (none_given (given_point d p.lines spots)
        (λ x. junction_number (junctions_of d p.lines) (Some x))
        (sym (numbers d p.lines spots) ∙ none p ours.1 free)),
    all_clear spots ps ours.3 none,
  )

  -- The number of the point that is chosen of a piece.
  chosen_number : (is_start : Bool) (p : PieceValue) (ends : WalkEnds) → AreOddEnds p (Some ends)
      → AllPairs (λ a b. is_same_point a b ≡ false) p.junctions
      → option_map (λ x. junction_number p.junctions (Some x)) (slice_get p.junctions (one_end is_start ends))
      ≡ Some (one_end is_start ends)
  chosen_number is_start p ends odd differ =
      let below : one_end is_start ends < length p.junctions = end_there is_start p ends odd in
      ap (option_map (λ x. junction_number p.junctions (Some x))) (slice_get-get_or p.junctions (one_end is_start ends) origin below)
      ∙ ap (λ n. Some n) (number_at p.junctions (one_end is_start ends) differ below)

  -- The graph of a piece in the drawing with other starts and ends.
  graph_with : (starts ends : List Spot) (p : Piece) (f : PieceEnds) → graph_of p ≡ piece_graph d p.lines → IsFound (graph_of p) f
      → AllPairs (λ a b. is_same_point a b ≡ false) (junctions_of d p.lines)
      → given_point d p.lines starts ≡ chosen_point true (graph_of p) (ends_found f) (given_point d p.lines d.starts)
      → given_point d p.lines ends ≡ chosen_point false (graph_of p) (ends_found f) (given_point d p.lines d.ends)
      → piece_graph (record d { starts = starts; ends = ends }) p.lines ≡ piece_with_ends (graph_of p) (ends_found f)
  graph_with starts ends p f is found differ start end =
      ap₂ (λ (s e : Option ℕ). record (piece_graph d p.lines) { start = s; end = e })
      (numbers d p.lines starts ∙ ap number start) (numbers d p.lines ends ∙ ap number end)
      ∙ by_ends (ends_found f) (found_odd d limits connected (lines_of_pieces all) are.are (graph_of p) f found)
    where
      number : Option Point → Option ℕ
      number o = option_map (λ x. junction_number (junctions_of d p.lines) (Some x)) o

      by_ends : (o : Option WalkEnds) → AreOddEnds (graph_of p) o
          → record (piece_graph d p.lines) {
            start = number (chosen_point true (graph_of p) o (given_point d p.lines d.starts));
            end = number (chosen_point false (graph_of p) o (given_point d p.lines d.ends));
          } ≡ piece_with_ends (graph_of p) o
      by_ends None odd =
          ap₂ (λ (s e : Option ℕ). record (piece_graph d p.lines) { start = s; end = e })
          (sym (numbers d p.lines d.starts)) (sym (numbers d p.lines d.ends)) ∙ sym is
      by_ends (Some ends) odd =
          let junctions : p.junctions ≡ junctions_of d p.lines = ap (λ (g : PieceValue). g.junctions) is in
          let apart = subst (AllPairs (λ a b. is_same_point a b ≡ false)) (sym junctions) differ in
          let one : (is_start : Bool) → number (slice_get p.junctions (one_end is_start ends)) ≡ Some (one_end is_start ends) =
          λ is_start. subst (λ js. option_map (λ x. junction_number js (Some x)) (slice_get p.junctions (one_end is_start ends))
          ≡ Some (one_end is_start ends)) junctions (chosen_number is_start (graph_of p) ends odd apart) in
          ap₂ (λ (s e : Option ℕ). record (piece_graph d p.lines) { start = s; end = e }) (one true) (one false)
          ∙ ap (λ (g : PieceValue). record g { start = Some ends.start; end = Some ends.end }) (sym is)

  graphs_with : (starts ends : List Spot) (ps : List Piece) (fs : List PieceEnds) → AreFound ps fs
      → All (λ (p : Piece). graph_of p ≡ piece_graph d p.lines) ps
      → All (λ lines. AllPairs (λ a b. is_same_point a b ≡ false) (junctions_of d lines)) (lines_of_pieces ps)
      → AreChosen d limits connected (lines_of_pieces all) are.are true ps fs d.starts starts
      → AreChosen d limits connected (lines_of_pieces all) are.are false ps fs d.ends ends
      → AllZip (λ p f. piece_graph (record d { starts = starts; ends = ends }) p.lines ≡ piece_with_ends (graph_of p) (ends_found f)) ps fs
  graphs_with starts ends [] [] founds graphs differ one two = tt
  graphs_with starts ends [] (f ∷ fs) founds graphs differ one two = founds
  graphs_with starts ends (p ∷ ps) [] founds graphs differ one two = founds
  graphs_with starts ends (p ∷ ps) (f ∷ fs) founds graphs differ one two = (
    graph_with starts ends p f (All-head (λ (q : Piece). graph_of q ≡ piece_graph d q.lines) p ps graphs) founds.0
        (All-head (λ lines. AllPairs (λ a b. is_same_point a b ≡ false) (junctions_of d lines)) p.lines (lines_of_pieces ps) differ)
        one.0 two.0,
    graphs_with starts ends ps fs founds.1 (All-tail (λ (q : Piece). graph_of q ≡ piece_graph d q.lines) p ps graphs)
        (All-tail (λ lines. AllPairs (λ a b. is_same_point a b ≡ false) (junctions_of d lines)) p.lines (lines_of_pieces ps) differ)
        one.1 two.1,
  )

  -- A drawing with valid starts and ends that has the best ends beside them: these are valid, and each piece has its own.
  pub record IsFreedWell (founds : List PieceEnds) : Type 0 where
    pub starts : AreInDifferentPieces d.lines (with_best_ends true d.starts all founds)
    pub ends : AreInDifferentPieces d.lines (with_best_ends false d.ends all founds)
    pub has : HasFoundEnds (drawing_with_found d all founds) all founds

  pub freed_well : (valid : PiecesAreValid) (founds : List PieceEnds) → AreFound all founds → AreInDifferentPieces d.lines d.starts
      → AreInDifferentPieces d.lines d.ends → IsFreedWell founds
  freed_well valid founds found starts ends = record {
    starts = first.fits;
    ends = second.fits;
    has = record {
      pieces_are = same_pieces d (with_best_ends true d.starts all founds) (with_best_ends false d.ends all founds)
          (lines_of_pieces all) are.are;
      graphs = graphs_with (with_best_ends true d.starts all founds) (with_best_ends false d.ends all founds) all founds found are.each
          (λ k e below. (valid d (lines_of_pieces all) limits are.are k e below).different) first.chosen second.chosen;
    };
  }
    where
      ours : AreOurs d limits connected (lines_of_pieces all) are.are all
      ours = all_ours d all are limits connected all (All-contains_itself all) are.each are.are.apart

      first : ArePut d limits connected (lines_of_pieces all) are.are true all founds d.starts (with_best_ends true d.starts all founds)
      first = are_put d limits connected (lines_of_pieces all) are.are true all founds d.starts ours found
          (all_clear d.starts all ours (λ p is free. sym (ap (λ (g : PieceValue). g.start) is) ∙ free.start)) starts

      second : ArePut d limits connected (lines_of_pieces all) are.are false all founds d.ends (with_best_ends false d.ends all founds)
      second = are_put d limits connected (lines_of_pieces all) are.are false all founds d.ends ours found
          (all_clear d.ends all ours (λ p is free. sym (ap (λ (g : PieceValue). g.end) is) ∙ free.end)) ends
