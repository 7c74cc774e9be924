-- The plan of each command that reads the text of a drawing and writes another one.
use Rattle.std.specs.Prelude.{ℕ, List, Result}
use Rattle.drawing_text.specs.declared.draw_fault.DrawFault.{DrawFault}
use Rattle.program_shell.specs.Plans.{Plan, reads}
use Rattle.drawing_commands.specs.FaultTexts.{plan_after_reading}
use Rattle.drawing_commands.specs.declared.text_reading.TextRead.{TextRead}
use Rattle.drawing_commands.specs.TextsRead.{text_read}
use Rattle.drawing_commands.specs.VersionOne.{plan_if_kept}

-- The plan for the result of reading the named text: the next one if no line would be cut, and a
-- fault is refused.
abbrev pub plan_of_text : List ℕ → (TextRead → Plan) → Result TextRead DrawFault → Plan
plan_of_text name next =
    plan_after_reading name (λ text. plan_if_kept name text.lines.drawing (next text))

-- The plan that reads the named text.
abbrev pub text_plan : List ℕ → (TextRead → Plan) → Plan
text_plan name next = reads name (λ bytes. plan_of_text name next (text_read bytes))
