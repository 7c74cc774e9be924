-- The labels that a design may have.
use Rattle.std.specs.Prelude.{◌≢◌, ℕ, ◌-◌, ◌≤◌, List, length, All, Some, slice_get}
use Rattle.design_model.specs.declared.design.TheConstants.{MAX_LABEL}

-- A byte that a label may contain: a printable character of ASCII.
pub record IsPrintable (byte : ℕ) : Type 0 where
  pub from_space : 32 ≤ byte
  pub to_tilde : byte ≤ 126

-- A label: short, printable, and without a space at its end.
pub record IsLabel (label : List ℕ) : Type 0 where
  pub short : length label ≤ MAX_LABEL
  pub printable : All IsPrintable label
  pub trimmed : slice_get label (length label - 1) ≢ Some 32
