-- What the numbers beside a drawing show: each label once, on one side, in rows apart from each
-- other.
use Rattle.std.specs.Prelude.{◌≡◌, ℕ, ◌+◌, ◌≤◌, Bool, List, [], ◌∷◌, filter, length, map}
use Rattle.drawing_picture.specs.declared.grid.Grid.{Grid}
use Rattle.drawing_picture.specs.declared.label_order.Side.TheVariants as side
use Rattle.drawing_picture.specs.declared.labels.Label.{Label}
use Rattle.drawing_picture.specs.declared.labels.TheConstants.{LABEL_SPACE}
use Rattle.drawing_picture.specs.LabelOrders.{PlacedLabel, labels_of_side, placed_labels}

-- How many labels pass a test.
abbrev pub passing : (Label → Bool) → List Label → ℕ
passing test labels = length (filter test labels)

-- Rows begin at the given one or below, and follow each other by the height of a label or more.
abbrev pub AreApart : ℕ → List PlacedLabel → Type 0
AreApart least [] = Unit {0}
AreApart least (p ∷ rest) = (least ≤ p.row) × AreApart (p.row + LABEL_SPACE) rest

-- The labels of a side stand in their rows in order, each once, and no row covers another.
pub record StandApart (bottom least : ℕ) (labels : List Label) : Type 0 where
  pub each : map (λ (p : PlacedLabel). p.label) (placed_labels bottom least labels) ≡ labels
  pub apart : AreApart least (placed_labels bottom least labels)

-- Whatever one asks of labels, as many pass on both sides together as there are: each label is on
-- one side, once.
abbrev pub SidesHaveLabels : Type 0
SidesHaveLabels = (g : Grid) (labels : List Label) (test : Label → Bool)
    → passing test (labels_of_side side.Left g labels) + passing test
    (labels_of_side side.Right g labels)
    ≡ passing test labels

-- Labels stand apart.
abbrev pub LabelsStandApart : Type 0
LabelsStandApart = (bottom least : ℕ) (labels : List Label) → StandApart bottom least labels
