-- The pieces in order are the pieces of a drawing.
use Rattle.std.proofs.Common.{◌≡◌, ◌≢◌, ◌<◌, ◌≤◌, inl, ℕ, true, List, [], ◌∷◌, length, map, filter, get_or, Some, unwrap_or, All, Contains, arith, refl, sym, ◌∙◌, ap, subst}
use Rattle.std.proofs.lemmas.List.Kept.{IsStrictlyIncreasing-filter}
use Rattle.drawing_edits.proofs.Names.{nat_tests, All-contains, All-filter, All-head, All-tail, filter_passes, slice_get-get_or, concat, range_with_len, Point, origin, DrawingValue, KeepsDrawingLimits, optional_line_points, first_line, Spot, LineValue, are_in_one_piece, is_first_of_piece, piece_of_line, pieces_in_order, All-map, IsStrictlyIncreasing, first_point, points_of, ArePieces, AreConnected, representative, spot_of_line, all_concat, concat_has, filter_has, map_has, number_found, range_rises, same_number}
use Rattle.line_graph.specs.FirstLines.{IsLineEnd}
use Rattle.line_graph.specs.ConnectedSpots.{SpotsAreConnected}
use Rattle.line_sections.specs.Spots.{is_same_spot}
use Rattle.drawing_edits.proofs.RangeLemmas.{range_below, range_has}
use Rattle.line_graph.proofs.CallerLemmas.{firsts_rise}
use Rattle.line_sections.proofs.CallerLemmas.{same_spot, spot_found}

-- A list of points begins at its first point.
begins : (ps : List Point) → 2 ≤ length ps → first_point ps ≡ Some (unwrap_or (first_point ps) origin)
begins ps h1 = grind (arith, nat_tests)

-- A list with an item begins with one of its items.
first_in : (xs : List ℕ) (x : ℕ) → Contains xs x → Contains xs (first_line xs)
first_in xs x h1 = grind (arith, nat_tests)

not_empty : (xs : List ℕ) (x : ℕ) → Contains xs x → xs ≢ []
not_empty xs x h1 = grind (arith, nat_tests)

module _ (d : DrawingValue) (limits : KeepsDrawingLimits d) (connected : SpotsAreConnected) where
  -- The representative of the spot where a line begins: lines of one piece have the same.
  abbrev key : ℕ → Spot
  key line = representative d.lines (spot_of_line d line)

  abbrev lines : List ℕ
  lines = range_with_len 0 (length d.lines)

  begins_there : (line : ℕ) → line < length d.lines → IsLineEnd d line (spot_of_line d line)
  begins_there line below =
      let none : LineValue = record { block = 0; points = [] } in
      let is : points_of d line ≡ (get_or d.lines line none).points =
      ap optional_line_points (slice_get-get_or d.lines line none below) in
      record {
        there = below;
        block = refl;
        at_end = inl (begins (points_of d line) (subst (λ (ps : List Point). 2 ≤ length ps) (sym is) (limits.lines line none below).long));
      }

  to_connected : (i j : ℕ) → i < length d.lines → j < length d.lines → key i ≡ key j → AreConnected d i j
  to_connected i j one two is =
      (connected d (spot_of_line d i) (spot_of_line d j) i j (begins_there i one) (begins_there j two)).led
      (subst (λ (s : Spot). is_same_spot (key i) s ≡ true) is (spot_found (key i)))

  from_connected : (i j : ℕ) → i < length d.lines → j < length d.lines → AreConnected d i j → key i ≡ key j
  from_connected i j one two chain = same_spot (key i) (key j)
      ((connected d (spot_of_line d i) (spot_of_line d j) i j (begins_there i one) (begins_there j two)).found chain)

  -- Lines with one key have one piece.
  piece_same : (i j : ℕ) → key i ≡ key j → piece_of_line d i ≡ piece_of_line d j
  piece_same i j is = ap (λ (s : Spot). filter (λ line. is_same_spot s (key line)) lines) is

  -- A line is in its piece.
  in_piece : (line : ℕ) → line < length d.lines → Contains (piece_of_line d line) line
  in_piece line below = filter_has (are_in_one_piece d line) lines line (range_has (length d.lines) line below) (spot_found (key line))

  piece_there : (line : ℕ) → All (λ n. n < length d.lines) (piece_of_line d line)
  piece_there line = All-filter (are_in_one_piece d line) (λ n. n < length d.lines) lines (range_below (length d.lines))

  -- All lines of a piece have its key.
  piece_keys : (line : ℕ) → All (λ n. key line ≡ key n) (piece_of_line d line)
  piece_keys line = λ k. λ n. λ less. same_spot (key line) (key (get_or (piece_of_line d line) k n))
      (filter_passes (are_in_one_piece d line) lines k n less)

  -- The first line of a line's piece.
  abbrev leader : ℕ → ℕ
  leader line = first_line (piece_of_line d line)

  leader_there : (line : ℕ) → line < length d.lines → leader line < length d.lines
  leader_there line below = All-contains (λ n. n < length d.lines) (piece_of_line d line) (leader line) (piece_there line)
      (first_in (piece_of_line d line) line (in_piece line below))

  leader_key : (line : ℕ) → line < length d.lines → key line ≡ key (leader line)
  leader_key line below = All-contains (λ n. key line ≡ key n) (piece_of_line d line) (leader line) (piece_keys line)
      (first_in (piece_of_line d line) line (in_piece line below))

  leader_leads : (line : ℕ) → line < length d.lines → leader (leader line) ≡ leader line
  leader_leads line below = sym (ap first_line (piece_same line (leader line) (leader_key line below)))

  abbrev leaders : List ℕ
  leaders = filter (is_first_of_piece d) lines

  leaders_there : All (λ line. line < length d.lines) leaders
  leaders_there = All-filter (is_first_of_piece d) (λ line. line < length d.lines) lines (range_below (length d.lines))

  leaders_lead : All (λ line. leader line ≡ line) leaders
  leaders_lead = λ k. λ x. λ less. same_number (leader (get_or leaders k x)) (get_or leaders k x)
      (filter_passes (is_first_of_piece d) lines k x less)

  firsts_are : (some : List ℕ) → All (λ line. leader line ≡ line) some → map first_line (map (piece_of_line d) some) ≡ some
  firsts_are [] lead = refl
  firsts_are (line ∷ some) lead =
      ap (λ (n : ℕ). n ∷ map first_line (map (piece_of_line d) some)) (All-head (λ line. leader line ≡ line) line some lead)
      ∙ ap (λ (ns : List ℕ). line ∷ ns) (firsts_are some (All-tail (λ line. leader line ≡ line) line some lead))

  -- What holds of the pieces of first lines holds of all pieces.
  all_pieces : (P : List ℕ → Type 0) → ((line : ℕ) → line < length d.lines → leader line ≡ line → P (piece_of_line d line))
      → All P (pieces_in_order d)
  all_pieces P each = All-map P (piece_of_line d) leaders
      (λ k. λ x. λ less. each (get_or leaders k x) (leaders_there k x less) (leaders_lead k x less))

  pieces_rise : IsStrictlyIncreasing (map first_line (pieces_in_order d))
  pieces_rise = subst (λ (ns : List ℕ). IsStrictlyIncreasing ns) (sym (firsts_are leaders leaders_lead))
      (IsStrictlyIncreasing-filter (is_first_of_piece d) lines (range_rises 0 (length d.lines)))

  -- A first line, by which its piece is known.
  record Leads (line : ℕ) : Type 0 where
    there : line < length d.lines
    lead : leader line ≡ line

  all_lead : All (λ piece. Leads (first_line piece)) (pieces_in_order d)
  all_lead = all_pieces (λ piece. Leads (first_line piece))
      (λ line. λ below. λ lead. record {
        there = leader_there line below;
        lead = leader_leads line below;
      })

  differ : (i j : ℕ) (x : List ℕ) → i < j → j < length (pieces_in_order d)
      → AreConnected d (first_line (get_or (pieces_in_order d) i x)) (first_line (get_or (pieces_in_order d) j x)) → ⊥
  differ i j x less below joined =
      let a : ℕ = first_line (get_or (pieces_in_order d) i x) in
      let b : ℕ = first_line (get_or (pieces_in_order d) j x) in
      let one = all_lead i x (omega (arith, less, below)) in
      let other = all_lead j x below in
      let alike : leader a ≡ leader b = ap first_line (piece_same a b (from_connected a b one.there other.there joined)) in
      omega (arith, one.lead, other.lead, alike, firsts_rise (pieces_in_order d) pieces_rise i j x less below)

  has : (line : ℕ) → line < length d.lines → Contains (concat (pieces_in_order d)) line
  has line below =
      let first : ℕ = leader line in
      let leads : Contains leaders first = filter_has (is_first_of_piece d) lines first
      (range_has (length d.lines) first (leader_there line below)) (number_found (leader first) first (leader_leads line below)) in
      concat_has (pieces_in_order d) (piece_of_line d first) line (map_has (piece_of_line d) leaders first leads)
      (subst (λ (ns : List ℕ). Contains ns line) (piece_same line first (leader_key line below)) (in_piece line below))

  joins : (line : ℕ) → line < length d.lines → leader line ≡ line → All (AreConnected d (leader line)) (piece_of_line d line)
  joins line below lead = subst (λ (n : ℕ). All (AreConnected d n) (piece_of_line d line)) (sym lead)
      (λ k. λ x. λ less. to_connected line (get_or (piece_of_line d line) k x) below (piece_there line k x less) (piece_keys line k x less))

  pub pieces_are : ArePieces d (pieces_in_order d)
  pieces_are = record {
    filled = all_pieces (λ piece. piece ≢ []) (λ line. λ below. λ lead. not_empty (piece_of_line d line) line (in_piece line below));
    there = all_concat (λ line. line < length d.lines) (pieces_in_order d)
        (all_pieces (λ piece. All (λ line. line < length d.lines) piece) (λ line. λ below. λ lead. piece_there line));
    covered = has;
    joined = all_pieces (λ piece. All (AreConnected d (first_line piece)) piece) joins;
    apart = λ i. λ j. λ x. λ less. λ below. λ joined. absurd (differ i j x less below joined);
    rising = all_pieces IsStrictlyIncreasing
        (λ line. λ below. λ lead. IsStrictlyIncreasing-filter (are_in_one_piece d line) lines (range_rises 0 (length d.lines)));
    ordered = pieces_rise;
  }
