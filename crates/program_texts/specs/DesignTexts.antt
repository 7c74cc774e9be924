-- The texts about a design for which an order is refused. A name is the bytes of a file name;
-- commands and colour places are numbered from 1, and lengths are in tenths of a millimetre.
use Rattle.std.specs.Prelude.{ℕ, List, ◌++◌, codes, decimal}
use Rattle.format_traits.specs.declared.fault.WriteFault.{WriteFault}
use Rattle.format_traits.specs.declared.fault.WriteFault.TheVariants as write
use Rattle.program_shell.specs.FileTexts.{text_about, text_at}

-- A text about a command of a design.
abbrev pub command_text : List ℕ → ℕ → List ℕ → List ℕ
command_text name number text = text_at name (codes "command") number text

-- The text about a command whose stitch is too long for a format with that limit.
abbrev pub long_stitch_text : List ℕ → (number limit : ℕ) → List ℕ
long_stitch_text name number limit = name ++ (codes ": command " ++ (decimal number
    ++ (codes ": stitch longer than " ++ decimal limit)))

-- The text about a design that a format with that limit cannot encode. A design that is refused
-- never has the fault `Memory`.
abbrev pub write_fault_text : List ℕ → ℕ → WriteFault → List ℕ
write_fault_text name limit (write.StitchTooLong number) = long_stitch_text name number limit
write_fault_text name limit (write.FloatTooLong number) =
    command_text name number (codes "float too long")
write_fault_text name limit (write.TooManyStops number) =
    command_text name number (codes "too many stops")
write_fault_text name limit (write.TooLong number) =
    command_text name number (codes "more than 1000000 commands written")
write_fault_text name limit write.Memory = text_about name (codes "out of memory")

-- The text about a colour place that the design does not have, with the number of its places.
abbrev pub no_colour_place_text : List ℕ → (place count : ℕ) → List ℕ
no_colour_place_text name place count = name ++ (codes ": no colour place " ++ (decimal place
    ++ (codes ", there are " ++ decimal count)))

-- The text about a design that exceeds a hoop, with the excess on each axis.
abbrev pub too_large_text : (x y : ℕ) → List ℕ
too_large_text x y = codes "too large by " ++ (decimal x ++ (codes " " ++ decimal y))
