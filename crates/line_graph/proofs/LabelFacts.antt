-- Labels of three lines, of which the first and the last are linked: what each step between two states of labels requires.
use Rattle.std.proofs.Common.{◌≡◌, ℕ, zero, suc, ◌+◌, ◌<◌, ◌≤◌, true, false, List, [], ◌∷◌, All, length, get_or, sum_by, refl, arith}
use Rattle.line_graph.proofs.Names.{All-cons, All-nil, AreOwnIndexes, LowersOneLabel, LowersLabels, AreLabelsOfLinks, LineLink, DrawingValue, AreConnected, AreNextFrom, lines_labelled_from, lines_labelled, pieces_by_label}
use Rattle.line_graph.specs.LineLabels.{AreFinalLabels}

abbrev own : List ℕ
own = 0 ∷ 1 ∷ 2 ∷ []

abbrev links : List LineLink
links = record { line = 2; first = 0 } ∷ []

-- nothing is less than itself
none_less : (n : ℕ) → n < n → ⊥
none_less n is = omega (arith, is)

-- each of the three lines has itself as its first label
label_is : (line : ℕ) → line < 3 → get_or own line 0 ≡ line
label_is zero below = refl
label_is (suc zero) below = refl
label_is (suc (suc zero)) below = refl
label_is (suc (suc (suc line))) below = omega (arith, below)

label_low : (line : ℕ) → line < 3 → get_or own line 0 ≤ line
label_low line below = omega (arith, label_is line below)

linked : (d : DrawingValue) → AreConnected d 2 0 → All (λ (link : LineLink). AreConnected d link.line link.first) links
linked d joined = All-cons (λ (link : LineLink). AreConnected d link.line link.first) (record { line = 2; first = 0 }) [] joined
    (All-nil (λ (link : LineLink). AreConnected d link.line link.first))

reached : (d : DrawingValue) (line : ℕ) → line < 3 → AreConnected d (get_or own line 0) line
reached d line below = ([], label_is line below)

-- the labels before are the lines themselves
pub known_own : (labels : List ℕ) → AreOwnIndexes 3 labels
    → (length labels ≡ 3) × (get_or labels 0 0 ≡ 0) × (get_or labels 1 0 ≡ 1) × (get_or labels 2 0 ≡ 2)
known_own labels are = (are.sized, are.own 0 (omega arith), are.own 1 (omega arith), are.own 2 (omega arith))

-- one label falls only to a lesser one, and stays only where the other isn't less
pub known_lowered : (new : List ℕ) → LowersOneLabel 2 1 own new true → new ≡ 0 ∷ 1 ∷ 1 ∷ []
known_lowered new lowers = lowers.1

pub known_equal_lowered : (new : List ℕ) → LowersOneLabel 2 2 own new true → ⊥
known_equal_lowered new lowers = none_less 2 lowers.0

pub known_label_kept : (new : List ℕ) → LowersOneLabel 2 2 own new false → new ≡ own
known_label_kept new lowers = lowers.1

pub known_greater_kept : (new : List ℕ) → LowersOneLabel 2 1 own new false → ⊥
known_greater_kept new lowers = greater lowers.0
  where
    greater : 2 ≤ 1 → ⊥
    greater is = omega (arith, is)

-- a pass over the links that changes labels makes their sum less, and keeps them on connected lines of no greater index
pub known_pass : (d : DrawingValue) (new : List ℕ) → AreConnected d 2 0 → LowersLabels links own new true
    → (length new ≡ 3) × (get_or new 1 0 ≤ 1) × AreConnected d (get_or new 2 0) 2 × (sum_by (λ (n : ℕ). n) new + 1 ≤ 3)
known_pass d new joined lowers = (
  lowers.sized,
  lowers.low label_low 1 (omega (arith, lowers.sized)),
  lowers.reached d (linked d joined) (reached d) 2 (omega (arith, lowers.sized)),
  lowers.less,
)

-- a pass that changes none leaves them as they are, and linked lines with equal ones
pub known_settled : (old new : List ℕ) → LowersLabels links old new false → (new ≡ old) × (get_or new 2 0 ≡ get_or new 0 0)
known_settled old new lowers = let settled = lowers.settled refl in (settled.0, settled.1 0 (record { line = 0; first = 0 }) (omega arith))

-- at last linked lines have equal labels
pub known_final : (d : DrawingValue) (new : List ℕ) → AreConnected d 2 0 → AreFinalLabels links own new
    → (length new ≡ 3) × (get_or new 1 0 ≤ 1) × AreConnected d (get_or new 1 0) 1 × (get_or new 2 0 ≡ get_or new 0 0)
known_final d new joined are = (
  are.sized,
  are.low 1 (omega (arith, are.sized)),
  are.reached d (linked d joined) (reached d) 1 (omega (arith, are.sized)),
  are.agree 0 (record { line = 0; first = 0 }) (omega arith),
)

pub known_labels : (d : DrawingValue) → AreConnected d 2 0 → (labels : List ℕ) → length labels ≡ 3 → AreLabelsOfLinks links labels
    → (get_or labels 1 0 ≤ 1) × AreConnected d (get_or labels 1 0) 1 × (get_or labels 2 0 ≡ get_or labels 0 0)
known_labels d joined labels sized are = (
  are.low 1 (omega (arith, sized)),
  are.reached d (linked d joined) 1 (omega (arith, sized)),
  are.agree 0 (record { line = 0; first = 0 }) (omega arith),
)

-- labels of five lines in two pieces, the lines of each and all
pub known_by_label : (lines_labelled (0 ∷ 1 ∷ 0 ∷ 1 ∷ 0 ∷ []) 1 ≡ 1 ∷ 3 ∷ [])
    × (pieces_by_label (0 ∷ 1 ∷ 0 ∷ 1 ∷ 0 ∷ []) ≡ (0 ∷ 2 ∷ 4 ∷ []) ∷ (1 ∷ 3 ∷ []) ∷ [])
    × (lines_labelled_from (0 ∷ 1 ∷ 0 ∷ 1 ∷ 0 ∷ []) 0 1 ≡ 2 ∷ 4 ∷ [])
known_by_label = (refl, refl, refl)

abbrev shared : List ℕ
shared = 0 ∷ 1 ∷ 1 ∷ []

-- next lines from the second line on: the last line has none, the second has the last, and so has the label of the first
pub known_next : (next : List ℕ) → AreNextFrom shared 1 next → (length next ≡ 3) × (get_or next 2 0 ≡ 3)
    × (2 ≤ get_or next 1 0) × (get_or next 1 0 ≤ 3) × (◌≡◌ {A = List ℕ} (2 ∷ []) (lines_labelled_from shared 1 (get_or next 1 0)))
    × (1 ≤ get_or next 0 0) × (get_or next 0 0 ≤ 3) × (get_or next 0 0 < 3 → get_or shared (get_or next 0 0) 0 ≡ 0)
known_next next are = let last = are.late 2 (omega arith) (omega arith) in
    let second = are.late 1 (omega arith) (omega arith) in
    let first = are.early 0 (omega arith) in
    (are.sized, omega (arith, last.from, last.most), second.from, second.most, second.rest, first.from, first.most, first.has)
