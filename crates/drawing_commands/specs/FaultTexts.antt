-- What is read of a drawing, or refused. A name is the bytes of a file name.
use Rattle.std.specs.Prelude.{ℕ, List, Result, Ok, Err}
use Rattle.drawing_text.specs.declared.draw_fault.DrawFault.{DrawFault}
use Rattle.program_shell.specs.Plans.{Plan, refuses}
use Rattle.program_texts.specs.DrawingTexts.{draw_fault_text}

-- The plan for the result of reading the named file: the next one for its value, and a fault is
-- refused.
abbrev pub plan_after_reading : {V : Type 0} → List ℕ → (V → Plan) → Result V DrawFault → Plan
plan_after_reading name next (Ok value) = next value
plan_after_reading name next (Err fault) = refuses (draw_fault_text name fault)
