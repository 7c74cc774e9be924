-- The texts about a file, for which an order is refused. A name is the bytes of a file name.
use Rattle.std.specs.Prelude.{ℕ, List, ◌++◌, codes, decimal}
use Rattle.format_traits.specs.declared.fault.ReadFault.{ReadFault}
use Rattle.format_traits.specs.declared.fault.ReadFault.TheVariants as read

-- A text about a file.
abbrev pub text_about : (name text : List ℕ) → List ℕ
text_about name text = name ++ (codes ": " ++ text)

-- A text about a numbered part of a file.
abbrev pub text_at : (name part : List ℕ) → ℕ → List ℕ → List ℕ
text_at name part number text =
    name ++ (codes ": " ++ (part ++ (codes " " ++ (decimal number ++ (codes ": " ++ text)))))

-- The text about a file that is longer than the limit of all files.
abbrev pub too_long_text : List ℕ → List ℕ
too_long_text name = text_about name (codes "longer than 67108864 bytes")

-- The text about a file that does not conform to its format. A byte is given by its offset from 0.
-- A file that is refused never has the fault `Memory`.
abbrev pub read_fault_text : List ℕ → ReadFault → List ℕ
read_fault_text name (read.Short at) = text_at name (codes "byte") at (codes "file too short")
read_fault_text name (read.Signature at) =
    text_at name (codes "byte") at (codes "signature not known")
read_fault_text name (read.Sequin at) = text_at name (codes "byte") at (codes "sequin")
read_fault_text name (read.Control at) =
    text_at name (codes "byte") at (codes "control code not known")
read_fault_text name (read.Range at) = text_at name (codes "byte") at (codes "point out of range")
read_fault_text name (read.TooMany at) =
    text_at name (codes "byte") at (codes "more than 1000000 commands")
read_fault_text name read.Memory = text_about name (codes "out of memory")
