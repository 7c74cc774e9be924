-- Labels of lines, from which the pieces are computed. The label of a line is the index of a line
-- that is connected to it, at last the first line of its piece. Used only inside this crate.
use Rattle.std.specs.Prelude.{◌≡◌, ℕ, ◌+◌, ◌<◌, ◌≤◌, Bool, true, false, List, length, get_or, set, All, sum_by}
use Rattle.line_graph.specs.declared.line_labels.LineLink.{LineLink}
use Rattle.line_graph.specs.Drawings.{DrawingValue}
use Rattle.line_graph.specs.PieceGraphs.{one_if}
use Rattle.line_graph.specs.Pieces.{AreConnected}

-- Initial labels: the label of each line is its own index.
pub record AreOwnIndexes (count : ℕ) (labels : List ℕ) : Type 0 where
  pub sized : length labels ≡ count
  pub own : (line : ℕ) → line < count → get_or labels line 0 ≡ line

-- No label is greater than the index of its line.
abbrev pub AreAtMostIndex : List ℕ → Type 0
AreAtMostIndex labels = (line : ℕ) → line < length labels → get_or labels line 0 ≤ line

-- Each line is connected to the line that is its label.
abbrev pub AreConnectedToLabels : DrawingValue → List ℕ → Type 0
AreConnectedToLabels d labels = (line : ℕ) → line < length labels
    → AreConnected d (get_or labels line 0) line

-- Both lines of each link have an index below the given number.
abbrev pub AreLinksBelow : ℕ → List LineLink → Type 0
AreLinksBelow count links = All (λ (link : LineLink). (link.line < count)
    × (link.first < count)) links

-- The two lines of each link are connected.
abbrev pub LinkedAreConnected : DrawingValue → List LineLink → Type 0
LinkedAreConnected d links = All (λ (link : LineLink). AreConnected d link.line link.first) links

-- The two lines of each link have equal labels.
abbrev pub LabelsAgree : List ℕ → List LineLink → Type 0
LabelsAgree labels links =
    All (λ (link : LineLink). get_or labels link.line 0 ≡ get_or labels link.first 0) links

-- A line's label is lowered to the given one, if that is less, and the flag records whether it was.
abbrev pub LowersOneLabel : ℕ → ℕ → List ℕ → List ℕ → Bool → Type 0
LowersOneLabel line label old new true = (label < get_or old line 0) × (new ≡ set old line label)
LowersOneLabel line label old new false = (get_or old line 0 ≤ label) × (new ≡ old)

-- Labels are lowered along links, and the flag records whether any label changed.
pub record LowersLabels (links : List LineLink) (old new : List ℕ) (changed : Bool) : Type 0 where
  pub sized : length new ≡ length old
  pub low : AreAtMostIndex old → AreAtMostIndex new
  pub reached : (d : DrawingValue) → LinkedAreConnected d links → AreConnectedToLabels d old
      → AreConnectedToLabels d new
  pub less : sum_by (λ n. n) new + one_if changed ≤ sum_by (λ n. n) old
  pub settled : changed ≡ false → (new ≡ old) × LabelsAgree new links

-- Final labels: labels are lowered along links until linked lines have equal labels.
pub record AreFinalLabels (links : List LineLink) (old new : List ℕ) : Type 0 where
  pub sized : length new ≡ length old
  pub low : AreAtMostIndex new
  pub reached : (d : DrawingValue) → LinkedAreConnected d links → AreConnectedToLabels d old
      → AreConnectedToLabels d new
  pub agree : LabelsAgree new links

-- Labels computed from links: each line is connected to its label, which is at most its index, and
-- linked lines have equal labels.
pub record AreLabelsOfLinks (links : List LineLink) (labels : List ℕ) : Type 0 where
  pub low : AreAtMostIndex labels
  pub reached : (d : DrawingValue) → LinkedAreConnected d links → AreConnectedToLabels d labels
  pub agree : LabelsAgree labels links
