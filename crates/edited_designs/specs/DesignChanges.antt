-- The edits of a design, and the bounds of their numbers. Lengths are in whole tenths of a
-- millimetre.
use Rattle.std.specs.Prelude.{ℕ, ◌≤◌, Bool, true, false, List, length}
use Rattle.std.specs.List.{list_any}
use Rattle.command_words.specs.Edits.{IsMotionInBounds}
use Rattle.design_edits.specs.declared.motion.Motion.{Motion}
use Rattle.design_model.specs.declared.design.TheConstants.{MAX_LABEL}
use Rattle.edited_designs.specs.declared.design_edit.DesignEdit.{DesignEdit}
use Rattle.edited_designs.specs.declared.design_edit.DesignEdit.TheVariants as edit
use Rattle.sewing_edits.specs.declared.float_cuts.TheConstants.{MAX_REACH}
use Rattle.sewing_edits.specs.declared.scales.TheConstants.{MAX_SCALE}
use Rattle.sewing_edits.specs.declared.tie_points.TheConstants.{MIN_TIE, MAX_TIE}

-- An edit of a design. `moved`: by a motion. `threaded`: another thread for a block, numbered from
-- 1. `tied`, `bared`: ties at the ends of threads, by a length, and none. `centred`. `cut`: long
-- floats become trims. `carried`: short trims become floats. `merged`: near needles go. `beaned`:
-- each stitch there and back. `scaled`: by hundredths. `needled`: without empty blocks. `pictured`:
-- the same design, whose file has its thumbnails. `named`: a label.
pub data DesignChange : Type 0 where
  moved : Motion → DesignChange
  threaded : (place number : ℕ) → DesignChange
  tied : (length : ℕ) → DesignChange
  bared : DesignChange
  centred : DesignChange
  cut : (limit : ℕ) → DesignChange
  carried : (limit : ℕ) → DesignChange
  merged : (limit : ℕ) → DesignChange
  beaned : (times : ℕ) → DesignChange
  scaled : (percent : ℕ) → DesignChange
  needled : DesignChange
  pictured : DesignChange
  named : (label : List ℕ) → DesignChange

-- The change that an edit is.
abbrev pub design_change : DesignEdit → DesignChange
design_change (edit.Move by) = moved by
design_change (edit.Thread place number) = threaded place number
design_change (edit.Tie length) = tied length
design_change edit.Bare = bared
design_change edit.Centre = centred
design_change (edit.Cut limit) = cut limit
design_change (edit.Carry limit) = carried limit
design_change (edit.Merge limit) = merged limit
design_change (edit.Bean times) = beaned times
design_change (edit.Scale percent) = scaled percent
design_change edit.DropEmpty = needled
design_change edit.Thumbnails = pictured
design_change (edit.Name label) = named label.now

-- An edit whose numbers are within their bounds.
abbrev pub IsDesignEdit : DesignEdit → Type 0
IsDesignEdit (edit.Move by) = IsMotionInBounds by
IsDesignEdit (edit.Thread place number) = (1 ≤ place) × (place ≤ 255)
IsDesignEdit (edit.Tie length) = (MIN_TIE ≤ length) × (length ≤ MAX_TIE)
IsDesignEdit edit.Bare = Unit {0}
IsDesignEdit edit.Centre = Unit {0}
IsDesignEdit (edit.Cut limit) = limit ≤ MAX_REACH
IsDesignEdit (edit.Carry limit) = limit ≤ MAX_REACH
IsDesignEdit (edit.Merge limit) = limit ≤ MAX_REACH
IsDesignEdit (edit.Bean times) = Unit {0}
IsDesignEdit (edit.Scale percent) = percent ≤ MAX_SCALE
IsDesignEdit edit.DropEmpty = Unit {0}
IsDesignEdit edit.Thumbnails = Unit {0}
IsDesignEdit (edit.Name label) = length label.now ≤ MAX_LABEL

-- An edit draws thumbnails.
abbrev pub is_pictured : DesignChange → Bool
is_pictured pictured = true
is_pictured other = false

-- One of some edits draws thumbnails.
abbrev pub draws_thumbnails : List DesignChange → Bool
draws_thumbnails changes = list_any is_pictured changes
