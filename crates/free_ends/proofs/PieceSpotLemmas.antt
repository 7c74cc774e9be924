-- Spots of pieces: the junctions of a piece stand with its first line, and with no other piece.
use Rattle.std.proofs.Common.{◌≡◌, ◌≢◌, ◌∙◌, ◌==◌, ◌<◌, ◌≤◌, ◌⊎◌, inl, inr, ℕ, zero, suc, Bool, true, false, ◌||◌, List, [], ◌∷◌, ◌++◌, Some, length, get_or, slice_get, if◌then◌else◌, All, Contains, refl, ap, sym, subst, arith}
use Rattle.std.proofs.lemmas.List.Elements.{All-contains, Contains-append_cases}
use Rattle.std.proofs.lemmas.List.Folds.{list_any-append}
use Rattle.std.proofs.lemmas.Option.{slice_get-get_or}
use Rattle.std.specs.List.{concat, flat_map, list_any}
use Rattle.design_model.proofs.CallerLemmas.{point_itself, same_is}
use Rattle.design_model.proofs.ListLemmas.{all_left, all_right, number_found, same_number}
use Rattle.design_model.specs.declared.point.Point.{Point}
use Rattle.design_model.specs.Points.{is_same_point, origin}
use Rattle.line_graph.specs.ConnectedSpots.{SpotsAreConnected}
use Rattle.line_graph.specs.Drawings.{DrawingValue, KeepsDrawingLimits, block_of, endpoints, first_point, last_point, optional_line_block, optional_line_points, points_of}
use Rattle.line_graph.specs.DrawnWalks.{is_junction_of}
use Rattle.line_graph.specs.FirstLines.{IsLineEnd}
use Rattle.line_graph.specs.PieceGraphs.{junctions_of, with_point, with_points}
use Rattle.line_graph.specs.Pieces.{AreConnected, ArePieces, IsPathOfLines, LinesTouch, first_line, shares_point}
use Rattle.line_graph.specs.WalkEnds.{has_end_at_spot, is_junction, representative}
use Rattle.line_sections.proofs.CallerLemmas.{same_spot, spot_found}
use Rattle.line_sections.specs.Lines.{LineValue}
use Rattle.line_sections.specs.Spots.{is_same_spot}
use Rattle.line_sections.specs.declared.spot.Spot.{Spot}
use Rattle.free_ends.proofs.Names.{and_parts, cases_lt, one_of, or_left, or_right, some_same}

-- An item that passes a test, where one does.
any_found : {A : Type 0} (p : A → Bool) (xs : List A) → list_any p xs ≡ true → (x : A) × Contains xs x × (p x ≡ true)
any_found p [] is = absurd cc
any_found p (x ∷ xs) is = elim (one_of (p x) (list_any p xs) is) [
  | inl here ↦ (x, (0, omega arith, refl), here)
  | inr later ↦
      let found = any_found p xs later in (found.0, (suc found.1.0, omega (arith, found.1.1), found.1.2), found.2)
]

pub any_has : {A : Type 0} (p : A → Bool) (xs : List A) (y : A) → Contains xs y → p y ≡ true → list_any p xs ≡ true
any_has p [] y (k, below, is) passes = absurd (omega (arith, below))
any_has p (x ∷ xs) y (zero, below, is) passes = or_left (p x) (list_any p xs) (ap p is ∙ passes)
any_has p (x ∷ xs) y (suc k, below, is) passes = or_right (p x) (list_any p xs) (any_has p xs y (k, omega (arith, below), is) passes)

any_within : {A B : Type 0} (p : B → Bool) (f : A → List B) (xs : List A)
    → list_any p (flat_map f xs) ≡ list_any (λ x. list_any p (f x)) xs
any_within p f [] = refl
any_within p f (x ∷ xs) = list_any-append p (f x) (flat_map f xs) ∙ ap (λ t. list_any p (f x) || t) (any_within p f xs)

-- A point is among points, each taken once, where it is among them.
put_tells : (q : Point) (points : List Point) (p : Point)
    → list_any (is_same_point q) (with_point points p) ≡ (list_any (is_same_point q) points || is_same_point q p)
put_tells q points p = by_tests (list_any (is_same_point p) points) (is_same_point q p) refl refl where
  or_false : (b : Bool) → b ≡ (b || false)
  or_false true = refl
  or_false false = refl

  by_tests : (s t : Bool) → list_any (is_same_point p) points ≡ s → is_same_point q p ≡ t
      → list_any (is_same_point q) (if s then points else points ++ p ∷ []) ≡ (list_any (is_same_point q) points || t)
  by_tests true true seen same =
      let here : list_any (is_same_point q) points ≡ true =
      subst (λ x. list_any (is_same_point x) points ≡ true) (sym (same_is q p same)) seen in
      rw here refl
  by_tests true false seen same = or_false (list_any (is_same_point q) points)
  by_tests false t seen same = list_any-append (is_same_point q) points (p ∷ [])
      ∙ ap (λ b. list_any (is_same_point q) points || b) (sym (or_false (is_same_point q p)) ∙ same)

all_tell : (q : Point) (points more : List Point) → list_any (is_same_point q) (with_points points more)
    ≡ (list_any (is_same_point q) points || list_any (is_same_point q) more)
all_tell q points [] = or_false (list_any (is_same_point q) points) where
  or_false : (b : Bool) → b ≡ (b || false)
  or_false true = refl
  or_false false = refl
all_tell q points (p ∷ more) =
    all_tell q (with_point points p) more ∙ ap (λ t. t || list_any (is_same_point q) more) (put_tells q points p)
    ∙ or_assoc (list_any (is_same_point q) points) (is_same_point q p) (list_any (is_same_point q) more)
  where
    or_assoc : (a b c : Bool) → ((a || b) || c) ≡ (a || (b || c))
    or_assoc true b c = refl
    or_assoc false b c = refl

-- The ends of a line.
end_from : (ps : List Point) (p : Point) → list_any (is_same_point p) (endpoints ps) ≡ true
    → (first_point ps ≡ Some p) ⊎ (last_point ps ≡ Some p)
end_from [] p is = absurd cc
end_from (q ∷ ps) p is =
    let found = any_found (is_same_point p) (endpoints (q ∷ ps)) is in
    at found.1.0 found.0 found.1.1 found.1.2 (same_is p found.0 found.2)
  where
    at : (k : ℕ) (x : Point) → k < length (endpoints (q ∷ ps)) → get_or (endpoints (q ∷ ps)) k x ≡ x → p ≡ x
        → (first_point (q ∷ ps) ≡ Some p) ⊎ (last_point (q ∷ ps) ≡ Some p)
    at zero x below here same = inl (ap (λ y. Some y) (here ∙ sym same))
    at (suc zero) x below here same = inr (ap (λ y. Some y) (here ∙ sym same))
    at (suc (suc k)) x below here same = absurd (omega (arith, below))

end_to : (ps : List Point) (p : Point) → (first_point ps ≡ Some p) ⊎ (last_point ps ≡ Some p)
    → list_any (is_same_point p) (endpoints ps) ≡ true
end_to [] p (inl is) = absurd (let no : ⊥ = cc in no)
end_to [] p (inr is) = absurd (let no : ⊥ = cc in no)
end_to (q ∷ ps) p (inl is) = any_has (is_same_point p) (endpoints (q ∷ ps)) p (0, omega arith, some_same _ _ is) (point_itself p)
end_to (q ∷ ps) p (inr is) = any_has (is_same_point p) (endpoints (q ∷ ps)) p (1, omega arith, some_same _ _ is) (point_itself p)

module _ (d : DrawingValue) (limits : KeepsDrawingLimits d) (connected : SpotsAreConnected) where
  abbrev no_line : LineValue
  no_line = record { block = 0; points = [] }

  abbrev stands : Spot → Spot
  stands spot = representative d.lines spot

  -- The spot where a line begins.
  abbrev start_of_line : ℕ → Spot
  start_of_line line = record { block = block_of d line; at = get_or (points_of d line) 0 origin }

  begins : (line : ℕ) → line < length d.lines → IsLineEnd d line (start_of_line line)
  begins line below =
      let is : points_of d line ≡ (get_or d.lines line no_line).points =
      ap optional_line_points (slice_get-get_or d.lines line no_line below) in
      record {
        there = below;
        block = refl;
        at_end = inl (first (points_of d line) (subst (λ ps. 2 ≤ length ps) (sym is) (limits.lines line no_line below).long));
      }
    where
      first : (ps : List Point) → 2 ≤ length ps → first_point ps ≡ Some (get_or ps 0 origin)
      first [] long = absurd (omega (arith, long))
      first (p ∷ ps) long = refl

  -- What a line and the lines that are connected to it stand with.
  abbrev key : ℕ → Spot
  key line = stands (start_of_line line)

  spot_key : (line : ℕ) (spot : Spot) → IsLineEnd d line spot → stands spot ≡ key line
  spot_key line spot end =
      same_spot (stands spot) (key line) ((connected d spot (start_of_line line) line line end (begins line end.there)).found ([], refl))

  line_key : (i j : ℕ) → i < length d.lines → j < length d.lines → AreConnected d i j → key i ≡ key j
  line_key i j one two is = same_spot (key i) (key j)
      ((connected d (start_of_line i) (start_of_line j) i j (begins i one) (begins j two)).found is)

  key_joins : (i j : ℕ) → i < length d.lines → j < length d.lines → key i ≡ key j → AreConnected d i j
  key_joins i j one two is = (connected d (start_of_line i) (start_of_line j) i j (begins i one) (begins j two)).led
      (subst (λ s. is_same_spot (key i) s ≡ true) is (spot_found (key i)))

  -- Connected lines are of one block.
  path_block : (i : ℕ) (chain : List ℕ) (j : ℕ) → IsPathOfLines d i chain j → block_of d i ≡ block_of d j
  path_block i [] j is = ap (block_of d) is
  path_block i (k ∷ chain) j (touch, later) = at_touch touch ∙ path_block k chain j later where
    at_touch : LinesTouch d i k → block_of d i ≡ block_of d k
    at_touch t =
        let both = and_parts (t.one.block == t.other.block) (shares_point (endpoints t.one.points) (endpoints t.other.points)) t.touch in
        ap optional_line_block t.one_is ∙ same_number t.one.block t.other.block both.0 ∙ sym (ap optional_line_block t.other_is)

  -- A junction of a drawing is an end of a line.
  junction_line : (spot : Spot) → is_junction d.lines spot ≡ true → (line : ℕ) × IsLineEnd d line spot
  junction_line spot is =
      let found = any_found (has_end_at_spot spot) d.lines is in
      let k : ℕ = found.1.0 in
      let at : slice_get d.lines k ≡ Some found.0 = slice_get-get_or d.lines k found.0 found.1.1 ∙ ap (λ l. Some l) found.1.2 in
      let both = and_parts (found.0.block == spot.block) (list_any (is_same_point spot.at) (endpoints found.0.points)) found.2 in (
        k,
        record {
          there = found.1.1;
          block = ap optional_line_block at ∙ same_number found.0.block spot.block both.0;
          at_end = end_from (points_of d k) spot.at (subst (λ ps. list_any (is_same_point spot.at) (endpoints ps) ≡ true)
              (sym (ap optional_line_points at)) both.1);
        },
      )

  line_junction : (line : ℕ) (spot : Spot) → IsLineEnd d line spot → is_junction d.lines spot ≡ true
  line_junction line spot end =
      let at : slice_get d.lines line ≡ Some (get_or d.lines line no_line) = slice_get-get_or d.lines line no_line end.there in
      let block : (get_or d.lines line no_line).block ≡ spot.block = sym (ap optional_line_block at) ∙ end.block in
      let found : list_any (is_same_point spot.at) (endpoints (get_or d.lines line no_line).points) ≡ true =
      subst (λ ps. list_any (is_same_point spot.at) (endpoints ps) ≡ true) (ap optional_line_points at)
      (end_to (points_of d line) spot.at end.at_end) in
      any_has (has_end_at_spot spot) d.lines (get_or d.lines line no_line) (line, end.there, same line end.there)
      (rw (number_found _ _ block, found) refl)
    where
      same : (k : ℕ) → k < length d.lines → get_or d.lines k (get_or d.lines k no_line) ≡ get_or d.lines k no_line
      same k below = default d.lines k below
        where
          default : (ls : List LineValue) (k : ℕ) → k < length ls → get_or ls k (get_or ls k no_line) ≡ get_or ls k no_line
          default [] k below = absurd (omega (arith, below))
          default (l ∷ ls) zero below = refl
          default (l ∷ ls) (suc k) below = default ls k (omega (arith, below))

  module _ (pieces : List (List ℕ)) (are : ArePieces d pieces) where
    connected_to_first : (piece : List ℕ) → Contains pieces piece → (line : ℕ) → Contains piece line
        → AreConnected d (first_line piece) line
    connected_to_first piece has line in_piece = All-contains (AreConnected d (first_line piece)) piece line
        (All-contains (λ p. All (AreConnected d (first_line p)) p) pieces piece are.joined has) in_piece

    each_there : (some : List (List ℕ)) → All (λ line. line < length d.lines) (concat some)
        → (piece : List ℕ) → Contains some piece → All (λ line. line < length d.lines) piece
    each_there [] all piece (k, below, is) = absurd (omega (arith, below))
    each_there (p ∷ rest) all piece (zero, below, is) =
        subst (All (λ line. line < length d.lines)) is (all_left (λ line. line < length d.lines) p (concat rest) all)
    each_there (p ∷ rest) all piece (suc k, below, is) =
        each_there rest (all_right (λ line. line < length d.lines) p (concat rest) all) piece (k, omega (arith, below), is)

    line_there : (piece : List ℕ) → Contains pieces piece → (line : ℕ) → Contains piece line → line < length d.lines
    line_there piece has line in_piece =
        All-contains (λ l. l < length d.lines) piece line (each_there pieces are.there piece has) in_piece

    first_in : (piece : List ℕ) → piece ≢ [] → Contains piece (first_line piece)
    first_in [] some = absurd (some refl)
    first_in (line ∷ piece) some = (0, omega arith, refl)

    first_there : (piece : List ℕ) → Contains pieces piece → first_line piece < length d.lines
    first_there piece has = line_there piece has (first_line piece)
        (first_in piece (All-contains (λ p. p ≢ []) pieces piece are.filled has))

    -- Pieces that stand with one spot are one piece.
    pub one_piece : (p q : List ℕ) → Contains pieces p → Contains pieces q → key (first_line p) ≡ key (first_line q) → p ≡ q
    one_piece p q one two same = by_order (cases_lt one.0 two.0) (cases_lt two.0 one.0) where
      joined : AreConnected d (first_line p) (first_line q)
      joined = key_joins (first_line p) (first_line q) (first_there p one) (first_there q two) same

      joined_back : AreConnected d (first_line q) (first_line p)
      joined_back = key_joins (first_line q) (first_line p) (first_there q two) (first_there p one) (sym same)

      at : (k : ℕ) (x y : List ℕ) → k < length pieces → get_or pieces k x ≡ get_or pieces k y
      at k x y below = default pieces k below where
        default : (ps : List (List ℕ)) (k : ℕ) → k < length ps → get_or ps k x ≡ get_or ps k y
        default [] k below = absurd (omega (arith, below))
        default (z ∷ ps) zero below = refl
        default (z ∷ ps) (suc k) below = default ps k (omega (arith, below))

      by_order : (one.0 < two.0) ⊎ (two.0 ≤ one.0) → (two.0 < one.0) ⊎ (one.0 ≤ two.0) → p ≡ q
      by_order (inl less) other = absurd (are.apart one.0 two.0 q less two.1
          (subst (λ x. AreConnected d (first_line x) (first_line (get_or pieces two.0 q))) (sym one.2 ∙ at one.0 p q one.1)
          (subst (λ x. AreConnected d (first_line p) (first_line x)) (sym two.2) joined)))
      by_order (inr more) (inl less) = absurd (are.apart two.0 one.0 p less one.1
          (subst (λ x. AreConnected d (first_line x) (first_line (get_or pieces one.0 p))) (sym two.2 ∙ at two.0 q p two.1)
          (subst (λ x. AreConnected d (first_line q) (first_line x)) (sym one.2) joined_back)))
      by_order (inr more) (inr too) =
          let equal : one.0 ≡ two.0 = omega (arith, more, too) in
          sym one.2 ∙ at one.0 p q one.1 ∙ ap (λ k. get_or pieces k q) equal ∙ two.2

    -- A junction of a piece is an end of one of its lines, and stands with its first line.
    junction_end : (piece : List ℕ) → Contains pieces piece → (spot : Spot) → is_junction_of d piece spot ≡ true
        → (line : ℕ) × Contains piece line × IsLineEnd d line spot
    junction_end piece has spot is =
        let both = and_parts (spot.block == block_of d (first_line piece)) (list_any (is_same_point spot.at) (junctions_of d piece)) is in
        let found = any_found (λ line. list_any (is_same_point spot.at) (endpoints (points_of d line))) piece
        (sym (any_within (is_same_point spot.at) (λ line. endpoints (points_of d line)) piece)
        ∙ sym (all_tell spot.at [] (flat_map (λ line. endpoints (points_of d line)) piece)) ∙ both.1) in
        let joined = connected_to_first piece has found.0 found.1 in (
          found.0,
          found.1,
          record {
            there = line_there piece has found.0 found.1;
            block = sym (path_block (first_line piece) joined.0 found.0 joined.1)
                ∙ sym (same_number spot.block (block_of d (first_line piece)) both.0);
            at_end = end_from (points_of d found.0) spot.at found.2;
          },
        )

    pub stands_with : (piece : List ℕ) → Contains pieces piece → (spot : Spot) → is_junction_of d piece spot ≡ true
        → stands spot ≡ key (first_line piece)
    stands_with piece has spot is =
        let end = junction_end piece has spot is in
        spot_key end.0 spot end.2 ∙ sym (line_key (first_line piece) end.0 (first_there piece has) (line_there piece has end.0 end.1)
        (connected_to_first piece has end.0 end.1))

    pub junction_there : (piece : List ℕ) → Contains pieces piece → (spot : Spot) → is_junction_of d piece spot ≡ true
        → is_junction d.lines spot ≡ true
    junction_there piece has spot is = let end = junction_end piece has spot is in line_junction end.0 spot end.2

    found_in : (some : List (List ℕ)) (line : ℕ) → Contains (concat some) line
        → (piece : List ℕ) × Contains some piece × Contains piece line
    found_in [] line (k, below, is) = absurd (omega (arith, below))
    found_in (piece ∷ rest) line has = elim (Contains-append_cases piece (concat rest) line has) [
      | inl here ↦ (piece, (0, omega arith, refl), here)
      | inr later ↦
          let found = found_in rest line later in
          (found.0, (suc found.1.0, omega (arith, found.1.1), found.1.2), found.2)
    ]

    -- A junction that stands with the first line of a piece is one of its junctions.
    pub is_of_piece : (piece : List ℕ) → Contains pieces piece → (spot : Spot) → is_junction d.lines spot ≡ true
        → stands spot ≡ key (first_line piece) → is_junction_of d piece spot ≡ true
    is_of_piece piece has spot junction same =
        let end = junction_line spot junction in
        let found = found_in pieces end.0 (are.covered end.0 end.1.there) in
        let joined = connected_to_first found.0 found.1 end.0 found.2 in
        let key_is : key (first_line found.0) ≡ key (first_line piece) =
        line_key (first_line found.0) end.0 (first_there found.0 found.1) end.1.there joined
        ∙ sym (spot_key end.0 spot end.1) ∙ same in
        let is : found.0 ≡ piece = one_piece found.0 piece found.1 has key_is in
        subst (λ p. is_junction_of d p spot ≡ true) is
        (rw (number_found _ _ (sym end.1.block ∙ sym (path_block (first_line found.0) joined.0 end.0 joined.1)))
        (all_tell spot.at [] (flat_map (λ line. endpoints (points_of d line)) found.0)
        ∙ any_within (is_same_point spot.at) (λ line. endpoints (points_of d line)) found.0
        ∙ any_has (λ line. list_any (is_same_point spot.at) (endpoints (points_of d line))) found.0 end.0 found.2
        (end_to (points_of d end.0) spot.at end.1.at_end)))
