-- The lines that a program reports on the standard error. Each begins with the name of the program.
use Rattle.std.specs.Prelude.{ℕ, List, ◌++◌, codes}
use Rattle.design_model.specs.TextLines.{newline}

-- The line of a program with that text.
abbrev pub message_line : (program text : List ℕ) → List ℕ
message_line program text = program ++ (codes ": " ++ (text ++ newline))

-- The line of a program with a text that ends with a file name.
abbrev pub named_line : (program text name : List ℕ) → List ℕ
named_line program text name = program ++ (codes ": " ++ (text ++ (name ++ newline)))

-- The line for out of memory.
abbrev pub out_of_memory_line : List ℕ → List ℕ
out_of_memory_line program = message_line program (codes "out of memory")

-- The line about an input file that could not be read.
abbrev pub cannot_read_line : (program name : List ℕ) → List ℕ
cannot_read_line program name = named_line program (codes "cannot read ") name

-- The line about an output file that could not be written.
abbrev pub cannot_write_line : (program name : List ℕ) → List ℕ
cannot_write_line program name = named_line program (codes "cannot write ") name

-- The line about a report that could not be printed.
abbrev pub cannot_print_line : List ℕ → List ℕ
cannot_print_line program = message_line program (codes "cannot print")
