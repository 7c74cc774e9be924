-- What bytes say as a task, or their first fault.
use Rattle.std.specs.Prelude.{ℕ, ◌+◌, ◌*◌, zero, suc, nat_le, List, [], ◌∷◌, length, take, drop, Option, Some, None, Result, Ok, Err, if◌then◌else◌}
use Rattle.std.specs.Str.{is_utf8}
use Rattle.task_runs.specs.Packing.{FileValue, TaskValue}
use Rattle.task_runs.specs.declared.task_fault.TaskFault.{TaskFault}
use Rattle.task_runs.specs.declared.task_fault.TaskFault.TheVariants as fault

-- A value that was read off bytes, and the bytes after it.
pub record Read (T : Type 0) : Type 0 where
  pub value : T
  pub rest : List ℕ

-- The number of four bytes, the low one first.
abbrev pub number_of : (a b c d : ℕ) → ℕ
number_of a b c d = a + 256 * b + 65536 * c + 16777216 * d

-- The number at the beginning of bytes, if there are four of them.
abbrev pub number_in : List ℕ → Option (Read ℕ)
number_in (a ∷ b ∷ c ∷ d ∷ rest) = Some (record { value = number_of a b c d; rest = rest })
number_in other = None

-- The part after its length, if there are so many bytes.
abbrev pub part_after : Option (Read ℕ) → Option (Read (List ℕ))
part_after None = None
part_after (Some read) = if nat_le read.value (length read.rest)
    then Some (record { value = take read.value read.rest; rest = drop read.value read.rest })
    else None

-- The part at the beginning of bytes, if it is whole.
abbrev pub part_in : List ℕ → Option (Read (List ℕ))
part_in bytes = part_after (number_in bytes)

-- A part that is to be a text.
abbrev pub text_of : Option (Read (List ℕ)) → Result (Read (List ℕ)) TaskFault
text_of None = Err fault.CutOff
text_of (Some read) = if is_utf8 read.value then Ok read else Err fault.NotText

-- The text at the beginning of bytes.
abbrev pub text_in : List ℕ → Result (Read (List ℕ)) TaskFault
text_in bytes = text_of (part_in bytes)

-- A file with that name and the content after it.
abbrev pub file_with : List ℕ → Option (Read (List ℕ)) → Result (Read FileValue) TaskFault
file_with name None = Err fault.CutOff
file_with name (Some read) =
    Ok (record { value = record { name = name; content = read.value }; rest = read.rest })

-- The file after its name.
abbrev pub file_after : Result (Read (List ℕ)) TaskFault → Result (Read FileValue) TaskFault
file_after (Ok read) = file_with read.value (part_in read.rest)
file_after (Err why) = Err why

-- The file at the beginning of bytes.
abbrev pub packed_file_in : List ℕ → Result (Read FileValue) TaskFault
packed_file_in bytes = file_after (text_in bytes)

-- Items with one more before them.
abbrev pub with_first : {T : Type 0} → T → Result (Read (List T)) TaskFault
    → Result (Read (List T)) TaskFault
with_first item (Ok read) = Ok (record { value = item ∷ read.value; rest = read.rest })
with_first item (Err why) = Err why

-- An item, and what is read of the bytes after it.
abbrev pub item_then : {T : Type 0} → Result (Read T) TaskFault
    → (List ℕ → Result (Read (List T)) TaskFault) → Result (Read (List T)) TaskFault
item_then (Ok read) next = with_first read.value (next read.rest)
item_then (Err why) next = Err why

-- A number of items at the beginning of bytes.
abbrev pub items_in : {T : Type 0} → (List ℕ → Result (Read T) TaskFault) → ℕ → List ℕ
    → Result (Read (List T)) TaskFault
items_in item zero bytes = Ok (record { value = []; rest = bytes })
items_in item (suc n) bytes = item_then (item bytes) (items_in item n)

-- The items after their number.
abbrev pub items_after : {T : Type 0} → (List ℕ → Result (Read T) TaskFault) → Option (Read ℕ)
    → Result (Read (List T)) TaskFault
items_after item None = Err fault.CutOff
items_after item (Some read) = items_in item read.value read.rest

-- The number of items at the beginning of bytes, and the items.
abbrev pub counted_in : {T : Type 0} → (List ℕ → Result (Read T) TaskFault) → List ℕ
    → Result (Read (List T)) TaskFault
counted_in item bytes = items_after item (number_in bytes)

-- A task with these arguments and files, if no byte is left.
abbrev pub task_with : List (List ℕ) → Result (Read (List FileValue)) TaskFault
    → Result TaskValue TaskFault
task_with words (Err why) = Err why
task_with words (Ok read) = whole words read.value read.rest
  where
    whole : List (List ℕ) → List FileValue → List ℕ → Result TaskValue TaskFault
    whole words files [] = Ok (record { words = words; files = files })
    whole words files (byte ∷ more) = Err fault.BytesLeft

-- The task after its arguments.
abbrev pub task_after : Result (Read (List (List ℕ))) TaskFault → Result TaskValue TaskFault
task_after (Ok read) = task_with read.value (counted_in packed_file_in read.rest)
task_after (Err why) = Err why

-- The task that bytes say, or their first fault.
abbrev pub task_of : List ℕ → Result TaskValue TaskFault
task_of bytes = task_after (counted_in text_in bytes)
