-- The text about a drawing whose lines can't be made to meet. A name is the bytes of a file name.
-- Blocks and lines are numbered from 1.
use Rattle.std.specs.Prelude.{ℕ, ◌+◌, List, ◌++◌, codes, decimal}
use Rattle.line_graph.specs.declared.draw_kind.DrawKind.{DrawKind}
use Rattle.line_graph.specs.declared.draw_kind.DrawKind.TheVariants as kind
use Rattle.met_drawings.specs.declared.meet_fault.MeetFault.{MeetFault}
use Rattle.met_drawings.specs.declared.meet_fault.MeetFault.TheVariants as fault
use Rattle.program_shell.specs.FileTexts.{text_about}
use Rattle.program_texts.specs.DrawingTexts.{draw_kind_text}

-- The text about a line that would vanish.
abbrev pub vanished_text : List ℕ → (block line : ℕ) → List ℕ
vanished_text name block line = name ++ (codes ": block " ++ (decimal (block + 1)
    ++ (codes " line " ++ (decimal (line + 1) ++ codes ": would vanish"))))

-- The name of a fault in a drawing whose lines meet. Lines are cut where they meet.
abbrev pub meet_kind_text : DrawKind → List ℕ
meet_kind_text kind.TooManyLines = codes "more than 1024 lines after cutting: split the drawing"
meet_kind_text other = draw_kind_text other

-- The text about a drawing whose lines can't be made to meet. A refused one never has the fault
-- `Memory`.
abbrev pub meet_fault_text : List ℕ → MeetFault → List ℕ
meet_fault_text name (fault.Vanished line) = vanished_text name line.block line.line
meet_fault_text name (fault.Limit kind) = text_about name (meet_kind_text kind)
