-- Next lines with the same label are found from the last line to the first, and lead through all lines of a piece.
use Rattle.std.proofs.Common.{◌≡◌, ◌≢◌, ◌<◌, ◌≤◌, ℕ, ◌+◌, ◌==◌, Bool, true, false, List, [], ◌∷◌, ◌++◌, length, get_or, set, arith, refl, ◌∙◌, ap}
use Rattle.std.proofs.lemmas.Grind.{get_or-set_at}
use Rattle.line_graph.proofs.Names.{nat_tests, get_or-set_other, length-set, AreAtMostIndex, AreNextFrom, IsFirstLabelled, lines_labelled_from, has_label, lines_labelled, filter_skips, same_number, eqb-false}
use Rattle.line_graph.proofs.PieceLabelLemmas.{labels_take}

module _ (labels next more : List ℕ) (line : ℕ) (below : line < length labels) (low : AreAtMostIndex labels)
    (is : more ≡ set (set next (get_or labels line 0) line) line (get_or next (get_or labels line 0) 0))
    (before : AreNextFrom labels (line + 1) next) where
  abbrev label : ℕ
  label = get_or labels line 0

  abbrev marked : List ℕ
  marked = set next label line

  up_to : label ≤ line
  up_to = low line below

  at_line : get_or more line 0 ≡ get_or next label 0
  at_line = ap (λ (ns : List ℕ). get_or ns line 0) is
      ∙ get_or-set_at marked line line (get_or next label 0) 0 refl (omega (arith, below, before.sized, length-set next label line))

  at_label : label ≢ line → get_or more label 0 ≡ line
  at_label apart = ap (λ (ns : List ℕ). get_or ns label 0) is
      ∙ get_or-set_other marked line label (get_or next label 0) 0 apart
      ∙ get_or-set_at next label label line 0 refl (omega (arith, up_to, below, before.sized))

  elsewhere : (j : ℕ) → j ≢ line → j ≢ label → get_or more j 0 ≡ get_or next j 0
  elsewhere j apart other = ap (λ (ns : List ℕ). get_or ns j 0) is
      ∙ get_or-set_other marked line j (get_or next label 0) 0 apart ∙ get_or-set_other next label j line 0 other

  -- the line is the first one with its own label
  first_here : IsFirstLabelled labels label line line
  first_here = record { from = omega arith; most = omega (arith, below); has = λ less. refl; rest = refl }

  -- and the first one with another label is that from the next line on
  first_after : (j first : ℕ) → has_label labels j line ≡ false
      → IsFirstLabelled labels j (line + 1) first → IsFirstLabelled labels j line first
  first_after j first test are = record {
    from = omega (arith, are.from);
    most = are.most;
    has = are.has;
    rest = filter_skips (has_label labels j) line (length labels) below test ∙ are.rest;
  }

  seen_early : (j : ℕ) → j < line → IsFirstLabelled labels j line (get_or more j 0)
  seen_early j less = by_test (label == j) refl
    where
      by_test : (t : Bool) → (label == j) ≡ t → IsFirstLabelled labels j line (get_or more j 0)
      by_test true test = grind (arith, nat_tests, same_number label, at_label, first_here)
      by_test false test = grind (arith, nat_tests, eqb-false label, elsewhere, first_after)

  seen_late : (j : ℕ) → line ≤ j → j < length labels → IsFirstLabelled labels (get_or labels j 0) (j + 1) (get_or more j 0)
  seen_late j from less = by_test (j == line) refl
    where
      by_test : (t : Bool) → (j == line) ≡ t → IsFirstLabelled labels (get_or labels j 0) (j + 1) (get_or more j 0)
      by_test true test = grind (arith, nat_tests, same_number, at_line, up_to)
      by_test false test = grind (arith, nat_tests, eqb-false, elsewhere, up_to)

  -- a line more
  pub one_seen : AreNextFrom labels line more
  one_seen = grind (arith, nat_tests, length-set marked line (get_or next label 0), length-set next label line, seen_early, seen_late)

-- the lines with a label before the given line, which is the next of them or the number of lines
pub record AreLabelledBefore (labels : List ℕ) (label line : ℕ) (lines : List ℕ) : Type 0 where
  pub most : line ≤ length labels
  pub has : line < length labels → get_or labels line 0 ≡ label
  pub all : lines ++ lines_labelled_from labels label line ≡ lines_labelled labels label

-- a chain goes on from a line to the next
pub chain_more : (labels : List ℕ) (label line next : ℕ) (lines more : List ℕ) → line < length labels → more ≡ lines ++ line ∷ []
    → IsFirstLabelled labels (get_or labels line 0) (line + 1) next → AreLabelledBefore labels label line lines
    → AreLabelledBefore labels label next more
chain_more labels label line next lines more below is first before =
    grind (arith, nat_tests, labels_take labels label line lines more (lines_labelled labels label) below is (before.has below) before.all)
