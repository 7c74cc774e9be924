-- Results of calls that may run out of memory.
use Rattle.std.specs.Prelude.{◌≡◌, Bool, true, false, Result, Ok, Err}

-- A fact that need not hold if the call ran out of memory.
abbrev pub UnlessOutOfMemory : Bool → Type 0 → Type 0
UnlessOutOfMemory true fact = Unit {0}
UnlessOutOfMemory false fact = fact

-- A result that equals the specified one, or is a fault that means out of memory.
abbrev pub IsSpecified : {A F : Type 0} → (F → Bool) → Result A F → Result A F → Type 0
IsSpecified is_out_of_memory specified (Ok a) = specified ≡ Ok a
IsSpecified is_out_of_memory specified (Err fault) = UnlessOutOfMemory (is_out_of_memory fault)
    (specified ≡ Err fault)
