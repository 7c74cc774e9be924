-- Edits as the program stores them, and the bounds of their numbers.
use Rattle.std.specs.Prelude.{◌≤◌, unsigned_abs}
use Rattle.design_edits.specs.declared.motion.Motion.{Motion}
use Rattle.design_edits.specs.declared.motion.Motion.TheVariants as motion
use Rattle.design_edits.specs.declared.motion.TheConstants.{MAX_SHIFT}
use Rattle.command_words.specs.declared.edit_words.Edit.{Edit}
use Rattle.command_words.specs.declared.edit_words.Edit.TheVariants as edit
use Rattle.command_words.specs.Changes.{Change, move, thread}

-- The change that an edit is.
abbrev pub change_of_edit : Edit → Change
change_of_edit (edit.Move by) = move by
change_of_edit (edit.Thread place number) = thread place number

-- A motion whose numbers are within the bounds of its argument.
abbrev pub IsMotionInBounds : Motion → Type 0
IsMotionInBounds (motion.Shift dx dy) =
    (unsigned_abs dx ≤ MAX_SHIFT) × (unsigned_abs dy ≤ MAX_SHIFT)
IsMotionInBounds (motion.Turn quarters) = quarters ≤ 3
IsMotionInBounds (motion.Mirror axis) = Unit {0}

-- An edit whose numbers are within the bounds of its argument.
abbrev pub IsEditInBounds : Edit → Type 0
IsEditInBounds (edit.Move by) = IsMotionInBounds by
IsEditInBounds (edit.Thread place number) = (1 ≤ place) × (place ≤ 255)
