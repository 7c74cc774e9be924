-- Drawings of version 1, whose lines meet at their ends only. The commands that write a drawing
-- write a later version, which cuts lines at the points that their block lists more than once. They
-- keep the pieces, and so refuse a drawing in which a line would be cut.
use Rattle.std.specs.Prelude.{ℕ, Bool, true, false, List, codes}
use Rattle.line_graph.specs.Drawings.{DrawingValue}
use Rattle.line_graph.specs.JoinedDrawings.{is_joined}
use Rattle.program_shell.specs.FileTexts.{text_about}
use Rattle.program_shell.specs.Plans.{Plan, refuses}

-- What is wrong with a drawing of version 1 whose pieces change where its lines are cut.
abbrev pub version_one_text : List ℕ
version_one_text = codes "redwork 1 can't be kept: migrate it first"

-- The plan for the drawing of a named file: the next one if the drawing is joined, and else it is
-- refused.
abbrev pub plan_if_joined : List ℕ → Plan → Bool → Plan
plan_if_joined name next true = next
plan_if_joined name next false = refuses (text_about name version_one_text)

-- The plan for a drawing as it is read: the next one if no line would be cut. In version 2 or 3
-- each line was cut when it was read, and so none is left to cut.
abbrev pub plan_if_kept : List ℕ → DrawingValue → Plan → Plan
plan_if_kept name d next = plan_if_joined name next (is_joined d)
