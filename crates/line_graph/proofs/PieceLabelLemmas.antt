-- Lines with one label are the pieces of a drawing.
use Rattle.std.proofs.Common.{◌≡◌, ◌≢◌, ◌<◌, ◌≤◌, ℕ, ◌+◌, ◌-◌, true, List, [], ◌∷◌, ◌++◌, length, map, filter, get_or, All, Contains, arith, refl, sym, ◌∙◌, ap, subst}
use Rattle.std.proofs.lemmas.List.FromFn.{get_or-range_with_len, length-range_with_len}
use Rattle.line_graph.proofs.Names.{nat_tests, append_assoc, All-contains, All-head, All-map, All-push, All-tail, concat, IsStrictlyIncreasing, LineLink, Piece, graph_of, lines_of_pieces, DrawingValue, AreLinks, AreLabelsOfLinks, PieceValue, piece_graph, ArePieceLabels, IsPiece, has_label, lines_labelled, pieces_by_label, ArePieces, AreConnected, IsPathOfLines, first_line, concat_has, filter_skips, number_found, same_number, append-nil, All-filter, filter_passes, IsStrictlyIncreasing-filter, range_with_len, ArePiecesOf, is_own_label, all_concat, filter_has, filter_takes, map_has, range_rises, unequal}
use Rattle.line_graph.proofs.LinkLemmas.{share_of}
use Rattle.line_graph.proofs.CallerLemmas.{firsts_rise}

-- numbers of a range are in it
range_has : (at count n : ℕ) → at ≤ n → n < at + count → Contains (range_with_len at count) n
range_has at count n from to = (
  n - at,
  omega (arith, length-range_with_len at count, from, to),
  get_or-range_with_len at count (n - at) n (omega (arith, from, to))
      ∙ omega (arith, from),
)

-- and are below its end
range_below : (at count : ℕ) → All (λ line. line < at + count) (range_with_len at count)
range_below at count k e there = grind (arith, nat_tests, get_or-range_with_len, length-range_with_len)

-- labels of a drawing's lines
module _ (d : DrawingValue) (labels : List ℕ) (are : ArePieceLabels d labels) where
  -- connected lines have equal labels
  leads_same : (i j : ℕ) (chain : List ℕ) → IsPathOfLines d i chain j → get_or labels i 0 ≡ get_or labels j 0
  leads_same i j [] leads = ap (λ (k : ℕ). get_or labels k 0) leads
  leads_same i j (k ∷ chain) leads = are.agree i k leads.0 ∙ leads_same k j chain leads.1

  -- so a label is its own
  label_first : (line : ℕ) → line < length labels → get_or labels (get_or labels line 0) 0 ≡ get_or labels line 0
  label_first line below = let chain = are.reached line below in leads_same (get_or labels line 0) line chain.0 chain.1

  -- a line is among those with its label
  among_labelled : (label line : ℕ) → line < length labels → get_or labels line 0 ≡ label → Contains (lines_labelled labels label) line
  among_labelled label line below is =
      let low = are.low line below in
      filter_has (has_label labels label) (range_with_len label (length labels - label)) line
      (range_has label (length labels - label) line (omega (arith, low, is)) (omega (arith, below, low, is)))
      (number_found (get_or labels line 0) label is)

  labelled_there : (label : ℕ) → label < length labels → All (λ line. line < length labels) (lines_labelled labels label)
  labelled_there label below =
      All-filter (has_label labels label) (λ line. line < length labels) (range_with_len label (length labels - label))
      (λ k. λ x. λ less. let at = range_below label (length labels - label) k x less in omega (arith, at, below))

  labelled_same : (label line : ℕ) → Contains (lines_labelled labels label) line → get_or labels line 0 ≡ label
  labelled_same label line among =
      same_number (get_or labels line 0) label (All-contains (λ n. has_label labels label n ≡ true) (lines_labelled labels label) line
      (filter_passes (has_label labels label) (range_with_len label (length labels - label))) among)

  -- the first of the lines with a label is the label
  labelled_begins : (label : ℕ) → label < length labels → get_or labels label 0 ≡ label
      → lines_labelled labels label ≡ label ∷ filter (has_label labels label) (range_with_len (label + 1) (length labels - (label + 1)))
  labelled_begins label below first = filter_takes (has_label labels label) label (length labels) below
      (number_found (get_or labels label 0) label first)

  -- the lines with one label are connected, and no other line touches them
  pub labelled_part : (label : ℕ) → label < length labels → get_or labels label 0 ≡ label → IsPiece d (lines_labelled labels label)
  labelled_part label below first = record {
    some = omega (arith, ap length (labelled_begins label below first));
    there = subst (λ (n : ℕ). All (λ line. line < n) (lines_labelled labels label)) are.sized (labelled_there label below);
    rising = IsStrictlyIncreasing-filter (has_label labels label) (range_with_len label (length labels - label))
        (range_rises label (length labels - label));
    joined = λ k. λ x. λ less. joins (get_or (lines_labelled labels label) k x) (labelled_there label below k x less)
        (same_number (get_or labels (get_or (lines_labelled labels label) k x) 0) label
        (filter_passes (has_label labels label) (range_with_len label (length labels - label)) k x less));
    whole = λ i. λ j. λ among. λ touch.
        among_labelled label j (omega (arith, (share_of d i j touch).two.there, are.sized)) (sym (are.agree i j touch)
        ∙ labelled_same label i among);
  }
    where
      joins : (line : ℕ) → line < length labels → get_or labels line 0 ≡ label
          → AreConnected d (first_line (lines_labelled labels label)) line
      joins line less is =
          subst (λ (n : ℕ). AreConnected d n line) (sym (ap first_line (labelled_begins label below first)))
          (subst (λ (n : ℕ). AreConnected d n line) is (are.reached line less))

  -- the lines that are their own labels
  abbrev firsts : List ℕ
  firsts = filter (is_own_label labels) (range_with_len 0 (length labels))

  firsts_there : All (λ line. line < length labels) firsts
  firsts_there =
      All-filter (is_own_label labels) (λ line. line < length labels) (range_with_len 0 (length labels))
      (λ k. λ x. λ less. let at = range_below 0 (length labels) k x less in omega (arith, at))

  firsts_first : All (λ line. get_or labels line 0 ≡ line) firsts
  firsts_first = grind (arith, nat_tests, same_number, filter_passes (is_own_label labels) (range_with_len 0 (length labels)))

  firsts_are : (lines : List ℕ) → All (λ line. line < length labels) lines → All (λ line. get_or labels line 0 ≡ line) lines
      → map first_line (map (lines_labelled labels) lines) ≡ lines
  firsts_are [] there first = refl
  firsts_are (line ∷ lines) there first =
      let here = labelled_begins line (All-head (λ line. line < length labels) line lines there)
      (All-head (λ line. get_or labels line 0 ≡ line) line lines first) in
      ap (λ (n : ℕ). n ∷ map first_line (map (lines_labelled labels) lines)) (ap first_line here)
      ∙ ap (λ (ns : List ℕ). line ∷ ns) (firsts_are lines (All-tail (λ line. line < length labels) line lines there)
      (All-tail (λ line. get_or labels line 0 ≡ line) line lines first))

  -- each first line begins its part
  all_parts : (P : List ℕ → Type 0) → ((line : ℕ) → line < length labels → get_or labels line 0 ≡ line → P (lines_labelled labels line))
      → All P (pieces_by_label labels)
  all_parts P each = All-map P (lines_labelled labels) firsts (λ k. λ x. λ less. each (get_or firsts k x) (firsts_there k x less)
      (firsts_first k x less))

  parts_rise : IsStrictlyIncreasing (map first_line (pieces_by_label labels))
  parts_rise = subst (λ (lines : List ℕ). IsStrictlyIncreasing lines) (sym (firsts_are firsts firsts_there firsts_first))
      (IsStrictlyIncreasing-filter (is_own_label labels) (range_with_len 0 (length labels)) (range_rises 0 (length labels)))

  first_is : (line : ℕ) → line < length labels → get_or labels line 0 ≡ line
      → get_or labels (first_line (lines_labelled labels line)) 0 ≡ first_line (lines_labelled labels line)
  first_is line below first = grind (arith, nat_tests, labelled_begins line below first)

  -- the lines with each label are the pieces
  pub parts_are : ArePieces d (pieces_by_label labels)
  parts_are = record {
    filled = all_parts (λ piece. piece ≢ []) (λ line. λ below. λ first. filled (lines_labelled labels line)
        (labelled_part line below first).some);
    there = all_concat (λ line. line < length d.lines) (pieces_by_label labels)
        (all_parts (λ piece. All (λ line. line < length d.lines) piece) (λ line. λ below. λ first. (labelled_part line below first).there));
    covered = λ line. λ below. has line (omega (arith, below, are.sized));
    joined = all_parts (λ piece. All (AreConnected d (first_line piece)) piece)
        (λ line. λ below. λ first. (labelled_part line below first).joined);
    apart = λ i. λ j. λ x. λ less. λ below. λ joined. absurd (differ i j x less below joined);
    rising = all_parts IsStrictlyIncreasing (λ line. λ below. λ first. (labelled_part line below first).rising);
    ordered = parts_rise;
  }
    where
      filled : (lines : List ℕ) → 1 ≤ length lines → lines ≢ []
      filled lines some none = omega (arith, some, ap length none)

      has : (line : ℕ) → line < length labels → Contains (concat (pieces_by_label labels)) line
      has line below =
          let label : ℕ = get_or labels line 0 in
          let within : label < length labels = omega (arith, are.low line below, below) in
          let first : get_or labels label 0 ≡ label = label_first line below in
          concat_has (pieces_by_label labels) (lines_labelled labels label) line
          (map_has (lines_labelled labels) firsts label (filter_has (is_own_label labels) (range_with_len 0 (length labels)) label
          (range_has 0 (length labels) label (omega arith) (omega (arith, within))) (number_found (get_or labels label 0) label first)))
          (among_labelled label line below refl)

      differ : (i j : ℕ) (x : List ℕ) → i < j → j < length (pieces_by_label labels)
          → AreConnected d (first_line (get_or (pieces_by_label labels) i x)) (first_line (get_or (pieces_by_label labels) j x)) → ⊥
      differ i j x less below joined =
          let First : List ℕ → Type 0 = λ piece. get_or labels (first_line piece) 0 ≡ first_line piece in
          let each : All First (pieces_by_label labels) = all_parts First first_is in
          let one = each i x (omega (arith, less, below)) in
          let other = each j x below in
          let alike = leads_same (first_line (get_or (pieces_by_label labels) i x))
          (first_line (get_or (pieces_by_label labels) j x)) joined.0 joined.1 in
          omega (arith, one, other, alike, firsts_rise (pieces_by_label labels) parts_rise i j x less below)

-- a line with the label is added after the others
pub labels_take : (labels : List ℕ) (label line : ℕ) (lines more whole : List ℕ) → line < length labels → more ≡ lines ++ line ∷ []
    → get_or labels line 0 ≡ label → lines ++ filter (has_label labels label) (range_with_len line (length labels - line)) ≡ whole
    → more ++ filter (has_label labels label) (range_with_len (line + 1) (length labels - (line + 1))) ≡ whole
labels_take labels label line lines more whole below is test so_far =
    let rest : List ℕ = filter (has_label labels label) (range_with_len (line + 1) (length labels - (line + 1))) in
    ap (λ (ls : List ℕ). ls ++ rest) is ∙ append_assoc lines (line ∷ []) rest
    ∙ ap (λ (ls : List ℕ). lines ++ ls) (sym (filter_takes (has_label labels label) line (length labels) below
    (number_found (get_or labels line 0) label test))) ∙ so_far

-- the lines of one piece more
pub lines_more : (pieces : List Piece) (p : Piece) → lines_of_pieces (pieces ++ p ∷ []) ≡ lines_of_pieces pieces ++ p.lines ∷ []
lines_more [] p = refl
lines_more (q ∷ pieces) p = ap (λ (ls : List (List ℕ)). q.lines ∷ ls) (lines_more pieces p)

-- the pieces so far, and the parts that are left
pub record AreCut (d : DrawingValue) (labels : List ℕ) (line : ℕ) (pieces : List Piece) : Type 0 where
  pub parts : lines_of_pieces pieces ++ map (lines_labelled labels)
      (filter (is_own_label labels) (range_with_len line (length labels - line))) ≡ pieces_by_label labels
  pub each : All (λ (p : Piece). graph_of p ≡ piece_graph d p.lines) pieces

-- a line that is its own label begins one
pub one_cut : (d : DrawingValue) (labels : List ℕ) (line : ℕ) (pieces more : List Piece) (p : Piece) → line < length labels
    → get_or labels line 0 ≡ line → graph_of p ≡ piece_graph d (lines_labelled labels line) → more ≡ pieces ++ p ∷ []
    → AreCut d labels line pieces → AreCut d labels (line + 1) more
one_cut d labels line pieces more p below test is more_is cut =
    let rest : List ℕ = filter (is_own_label labels) (range_with_len (line + 1) (length labels - (line + 1))) in
    let lines : p.lines ≡ lines_labelled labels line = ap (λ (v : PieceValue). v.lines) is in
    record {
      parts = ap (λ (ps : List Piece). lines_of_pieces ps ++ map (lines_labelled labels) rest) more_is
          ∙ ap (λ (ls : List (List ℕ)). ls ++ map (lines_labelled labels) rest) (lines_more pieces p)
          ∙ append_assoc (lines_of_pieces pieces) (p.lines ∷ []) (map (lines_labelled labels) rest)
          ∙ ap (λ (l : List ℕ). lines_of_pieces pieces ++ l ∷ map (lines_labelled labels) rest) lines
          ∙ ap (λ (ls : List ℕ). lines_of_pieces pieces ++ map (lines_labelled labels) ls)
          (sym (filter_takes (is_own_label labels) line (length labels) below (number_found (get_or labels line 0) line test))) ∙ cut.parts;
      each = subst (λ (ps : List Piece). All (λ (p : Piece). graph_of p ≡ piece_graph d p.lines) ps) (sym more_is)
          (All-push (λ (p : Piece). graph_of p ≡ piece_graph d p.lines) pieces p cut.each (is ∙ ap (piece_graph d) (sym lines)));
    }

-- and any other line does not
pub none_cut : (d : DrawingValue) (labels : List ℕ) (line : ℕ) (pieces : List Piece) → line < length labels → get_or labels line 0 ≢ line
    → AreCut d labels line pieces → AreCut d labels (line + 1) pieces
none_cut d labels line pieces below test cut = record {
  parts = ap (λ (ls : List ℕ). lines_of_pieces pieces ++ map (lines_labelled labels) ls)
      (sym (filter_skips (is_own_label labels) line (length labels) below (unequal (get_or labels line 0) line test))) ∙ cut.parts;
  each = cut.each;
}

-- with no line left the pieces are those of the drawing
pub all_cut : (d : DrawingValue) (labels : List ℕ) (line : ℕ) (pieces : List Piece) → ArePieceLabels d labels → length labels ≤ line
    → AreCut d labels line pieces → ArePiecesOf d pieces
all_cut d labels line pieces are all cut =
    let none : length labels - line ≡ 0 = omega (arith, all) in
    let whole : lines_of_pieces pieces ≡ pieces_by_label labels =
    sym (append-nil (lines_of_pieces pieces))
    ∙ sym (ap (λ (n : ℕ). lines_of_pieces pieces ++ map (lines_labelled labels) (filter (is_own_label labels) (range_with_len line n)))
    none)
    ∙ cut.parts in
    record { are = subst (λ (ls : List (List ℕ)). ArePieces d ls) (sym whole) (parts_are d labels are); each = cut.each }

-- labels that agree on links are those of the drawing's lines
pub labels_are : (d : DrawingValue) (links : List LineLink) (labels : List ℕ) → AreLinks d links → AreLabelsOfLinks links labels
    → length labels ≡ length d.lines → ArePieceLabels d labels
labels_are d links labels are lines_labelled sized = grind (arith, nat_tests)
