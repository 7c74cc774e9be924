-- Windows that slide over sorted keys. No public clause cites this file.
use Rattle.std.specs.Prelude.{◌≡◌, ℕ, ◌+◌, ◌-◌, ◌≤◌, List}
use Rattle.design_model.specs.declared.design.TheConstants.{MAX_COMMANDS}
use Rattle.design_review.specs.declared.key_windows.Columns.{Columns}
use Rattle.design_review.specs.declared.key_windows.Window.{Window}
use Rattle.design_review.specs.NeedleKeys.{count_below}

-- A window is at the keys from a least one to a greatest: it begins after those below the least,
-- and ends after those up to the greatest.
pub record IsWindowAt (keys : List ℕ) (least greatest : ℕ) (window : Window) : Type 0 where
  pub start : window.start ≡ count_below keys least
  pub end : window.end ≡ count_below keys (greatest + 1)

-- A window is not yet beyond the keys from a least one to a greatest.
pub record IsWindowBefore (keys : List ℕ) (least greatest : ℕ) (window : Window) : Type 0 where
  pub start : window.start ≤ count_below keys least
  pub end : window.end ≤ count_below keys (greatest + 1)

-- The windows of the five columns are at the needles in one hole with one of that key.
pub record AreColumnsAt (keys : List ℕ) (key : ℕ) (columns : Columns) : Type 0 where
  pub far_left : IsWindowAt keys (key - 131072) (key - 131072) columns.far_left
  pub left : IsWindowAt keys (key - 65537) (key - 65535) columns.left
  pub middle : IsWindowAt keys (key - 2) (key + 2) columns.middle
  pub right : IsWindowAt keys (key + 65535) (key + 65537) columns.right
  pub far_right : IsWindowAt keys (key + 131072) (key + 131072) columns.far_right

-- The windows of the five columns are not yet beyond those needles.
pub record AreColumnsBefore (keys : List ℕ) (key : ℕ) (columns : Columns) : Type 0 where
  pub far_left : IsWindowBefore keys (key - 131072) (key - 131072) columns.far_left
  pub left : IsWindowBefore keys (key - 65537) (key - 65535) columns.left
  pub middle : IsWindowBefore keys (key - 2) (key + 2) columns.middle
  pub right : IsWindowBefore keys (key + 65535) (key + 65537) columns.right
  pub far_right : IsWindowBefore keys (key + 131072) (key + 131072) columns.far_right

-- No window ends after so many keys that sizes of five windows can't be added.
pub record HasFewKeys (columns : Columns) : Type 0 where
  pub far_left : columns.far_left.end ≤ MAX_COMMANDS
  pub left : columns.left.end ≤ MAX_COMMANDS
  pub middle : columns.middle.end ≤ MAX_COMMANDS
  pub right : columns.right.end ≤ MAX_COMMANDS
  pub far_right : columns.far_right.end ≤ MAX_COMMANDS
