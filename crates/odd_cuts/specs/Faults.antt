-- Checks that report the first fault.
use Rattle.std.specs.Prelude.{◌≡◌, Option, Some, None, Result, Ok, Err}

-- The first of two optional faults.
abbrev pub first_fault : {F : Type 0} → Option F → Option F → Option F
first_fault (Some fault) rest = Some fault
first_fault None rest = rest

-- A result reports the given fault, or is Ok where there is none.
abbrev pub ReportsFault : {T F : Type 0} → Option F → Result T F → Type 0
ReportsFault found (Ok _) = found ≡ None
ReportsFault found (Err fault) = found ≡ Some fault
