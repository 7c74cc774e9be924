-- Packed tasks and replies: numbers of 32 bits with the low byte first, and parts, each its length
-- and its bytes. Own format, which docs/EMBEDDING.md describes.
use Rattle.std.specs.Prelude.{ℕ, ◌/◌, ◌%◌, List, [], ◌∷◌, ◌++◌, length}
use Rattle.std.specs.List.{flat_map}

-- A number in four bytes, the low one first.
abbrev pub packed_number : ℕ → List ℕ
packed_number n = n % 256 ∷ n / 256 % 256 ∷ n / 65536 % 256 ∷ n / 16777216 % 256 ∷ []

-- A part: its length, and its bytes.
abbrev pub packed_part : List ℕ → List ℕ
packed_part bytes = packed_number (length bytes) ++ bytes

-- A file: its name, and its content.
pub record FileValue : Type 0 where
  pub name : List ℕ
  pub content : List ℕ

-- A packed file: its name and its content, each as a part.
abbrev pub packed_file : FileValue → List ℕ
packed_file file = packed_part file.name ++ packed_part file.content

-- Packed files: their number, and each of them.
abbrev pub packed_files : List FileValue → List ℕ
packed_files files = packed_number (length files) ++ flat_map packed_file files

-- A task: the arguments of a run, and the files that it may read.
pub record TaskValue : Type 0 where
  pub words : List (List ℕ)
  pub files : List FileValue

-- A packed task: the number of arguments, each as a part, and the files.
abbrev pub packed_task : TaskValue → List ℕ
packed_task task = packed_number (length task.words)
    ++ (flat_map packed_part task.words ++ packed_files task.files)

-- A reply: the outcome, what the run printed, what it reported, and the files that it left changed.
pub record ReplyValue : Type 0 where
  pub outcome : ℕ
  pub out : List ℕ
  pub err : List ℕ
  pub files : List FileValue

-- A packed reply.
abbrev pub packed_reply : ReplyValue → List ℕ
packed_reply reply = packed_number reply.outcome
    ++ (packed_part reply.out ++ (packed_part reply.err ++ packed_files reply.files))
