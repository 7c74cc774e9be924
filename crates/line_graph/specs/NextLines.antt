-- The next line of each line with the same label. It leads from the first line of a piece through
-- all lines of that piece. Indexes of lines count from 0. Used only inside this crate.
use Rattle.std.specs.Prelude.{◌≡◌, ℕ, ◌+◌, ◌-◌, ◌<◌, ◌≤◌, List, length, filter, get_or}
use Rattle.std.specs.List.{range_with_len}
use Rattle.line_graph.specs.PieceLabels.{has_label}

-- The lines with the given label from the given line on, in increasing order.
abbrev pub lines_labelled_from : List ℕ → ℕ → ℕ → List ℕ
lines_labelled_from labels label at =
    filter (has_label labels label) (range_with_len at (length labels - at))

-- The first line with a label, from the line `at` on, or the number of lines where there is none.
pub record IsFirstLabelled (labels : List ℕ) (label at first : ℕ) : Type 0 where
  pub from : at ≤ first
  pub most : first ≤ length labels
  pub has : first < length labels → get_or labels first 0 ≡ label
  pub rest : lines_labelled_from labels label at ≡ lines_labelled_from labels label first

-- Next lines, as far as the lines from `at` on determine them. Each of these lines has the next
-- line with its label. A number below `at` has, as a label, the first of these lines with it.
pub record AreNextFrom (labels : List ℕ) (at : ℕ) (next : List ℕ) : Type 0 where
  pub sized : length next ≡ length labels
  pub early : (label : ℕ) → label < at → IsFirstLabelled labels label at (get_or next label 0)
  pub late : (line : ℕ) → at ≤ line → line < length labels
      → IsFirstLabelled labels (get_or labels line 0) (line + 1) (get_or next line 0)
