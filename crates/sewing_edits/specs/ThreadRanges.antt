-- The ranges of thread edits and of their needles. No public clause of another crate cites this
-- file.
use Rattle.std.specs.Prelude.{◌≤◌, List, IsTrue}
use Rattle.std.specs.List.{list_all}
use Rattle.design_model.specs.declared.point.TheConstants.{NEEDLE_LIMIT}
use Rattle.design_model.specs.Points.{is_point_within}
use Rattle.design_review.specs.declared.thread_needles.ThreadNeedle.{ThreadNeedle}
use Rattle.sewing_edits.specs.declared.thread_edits.ThreadEdit.{ThreadEdit}
use Rattle.sewing_edits.specs.declared.thread_edits.ThreadEdit.TheVariants as edit
use Rattle.sewing_edits.specs.declared.tie_points.TheConstants.{MAX_TIE}

-- A tie is at most so long.
abbrev pub IsThreadEdit : ThreadEdit → Type 0
IsThreadEdit (edit.Tie length) = length ≤ MAX_TIE
IsThreadEdit edit.Bare = Unit {0}

-- The points of needles are in a needle's range.
abbrev pub AreNeedlesInRange : List ThreadNeedle → Type 0
AreNeedlesInRange needles = IsTrue (list_all (λ n. is_point_within NEEDLE_LIMIT n.at) needles)
