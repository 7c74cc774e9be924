-- What reading and parsing an input exclude.
use Rattle.std.proofs.Common.{◌≡◌, ℕ, ◌≤◌, ◌∷◌, [], List, length, Result, Ok, Err, Some, refl, sym, arith, ⊎_elim, None, true≢false}
use Rattle.program_shell.proofs.Names.{LacksInput, ParsesInput, Plan, ReadsInput, Rose, StoreView, read_call, refuses}
use Rattle.program_shell.proofs.OutcomeFacts.{no_file, none_is_some, one_byte, storing}
use Rattle.program_shell.specs.FileTexts.{too_long_text}
use Rattle.program_shell.specs.StepOutcomes.{IsRefusedInput}
use Rattle.program_shell.specs.declared.failure.Failure.TheVariants as failure

-- what is read is the file's content, is at most 67,108,864 bytes long, and changes no file
pub known_not_read : (name bytes : List ℕ) (s' : StoreView) → ReadsInput name (storing no_file 0) s' (Ok bytes) → ⊥
known_not_read name bytes s' reads = none_is_some bytes (reads.0.held no_file refl)

pub known_read : (name bytes : List ℕ) (s s' : StoreView) → ReadsInput name s s' (Ok bytes)
    → (length bytes ≤ 67108864) × (s' ≡ s)
known_read name bytes s s' reads = (reads.0.short, reads.1)

-- a missing file isn't there, and is the named one
pub known_not_missing : (name : List ℕ) (missing : _) (s' : StoreView)
    → ReadsInput name (storing one_byte 0) s' (Err (failure.MissingInput missing)) → ⊥
known_not_missing name missing s' reads = none_is_some (7 ∷ []) (sym (reads.1.missing one_byte refl))

pub known_missing : (name : List ℕ) (missing : _) (s s' : StoreView) → ReadsInput name s s' (Err (failure.MissingInput missing))
    → (missing.now ≡ name) × (s' ≡ s)
known_missing name missing s s' reads = (reads.0, reads.2)

-- a failed read is of the named file, is counted and blamed, and changes no file
pub known_failed_read : (name : List ℕ) (lost : _) (s s' : StoreView) → ReadsInput name s s' (Err (failure.ReadFailed lost))
    → (lost.now ≡ name) × (s'.blame ≡ Some (read_call name)) × Rose s.faults s'.faults × (s'.files ≡ s.files)
known_failed_read name lost s s' reads = (reads.0, reads.1.blame, reads.1.rose, reads.2)

-- a refused file is too long, and nothing changes
pub known_not_too_long : (name text : List ℕ) (s' : StoreView) → ReadsInput name (storing one_byte 0) s' (Err (failure.Refused text)) → ⊥
known_not_too_long name text s' reads = omega (arith, reads.1 one_byte refl)

pub known_too_long : (name text : List ℕ) (s s' : StoreView) → ReadsInput name s s' (Err (failure.Refused text))
    → (text ≡ too_long_text name) × (s' ≡ s)
known_too_long name text s s' reads = (reads.0, reads.2)

pub known_other_failures : (name : List ℕ) (s s' : StoreView) → (ReadsInput name s s' (Err failure.BadArguments) → ⊥)
    × (ReadsInput name s s' (Err failure.Memory) → s' ≡ s)
known_other_failures name s s' = (λ reads. reads, λ reads. reads)

-- a parser that counts bytes, and one that finds the fault 4
abbrev counted : List ℕ → Result ℕ ℕ
counted bytes = Ok (length bytes)

abbrev faulty : List ℕ → Result ℕ ℕ
faulty bytes = Err 4

abbrev text_of : ℕ → List ℕ
text_of fault = fault ∷ []

-- the value is that of the bytes which were read
pub known_parsed : (name : List ℕ) (n : ℕ) (s s' : StoreView) → ParsesInput counted text_of name s s' (Ok n)
    → (bytes : List ℕ) × ReadsInput name s s' (Ok bytes) × (counted bytes ≡ Ok n)
known_parsed name n s s' parses = (parses.bytes, parses.read, parses.is)

-- a file without a fault isn't refused, unless it is too long
pub known_faultless : (name text : List ℕ) (s' : StoreView)
    → ParsesInput counted text_of name (storing one_byte 0) s' (Err (failure.Refused text)) → ⊥
known_faultless name text s' parses = ⊎_elim (λ reads. known_not_too_long name text s' reads) (λ refused. none refused) parses
  where
    none : IsRefusedInput counted text_of name (storing one_byte 0) s' text → ⊥
    none refused = let same : counted refused.input.bytes ≡ Err refused.fault = refused.input.is in cc

-- a fault is refused with the text about it
pub known_fault : (name text : List ℕ) (s s' : StoreView) → IsRefusedInput faulty text_of name s s' text → text ≡ 4 ∷ []
known_fault name text s s' refused =
    let fault : faulty refused.input.bytes ≡ Err refused.fault = refused.input.is in
    let is : text ≡ text_of refused.fault = refused.is_text in cc

-- a file that isn't read isn't parsed
pub known_unread : (name : List ℕ) (lost : _) (s s' : StoreView)
    → (ParsesInput counted text_of name s s' (Err failure.BadArguments) → ⊥)
    × (ParsesInput counted text_of name s s' (Err (failure.MissingInput lost)) → ReadsInput name s s' (Err (failure.MissingInput lost)))
    × (ParsesInput counted text_of name s s' (Err (failure.ReadFailed lost)) → ReadsInput name s s' (Err (failure.ReadFailed lost)))
    × (ParsesInput counted text_of name s s' (Err failure.Memory) → s' ≡ s)
known_unread name lost s s' = (λ parses. parses, λ parses. parses, λ parses. parses, λ parses. parses)

-- an input that the plan lacks is no visible file, and one that the plan reads
pub known_lacked : (plan : Plan) (text name : List ℕ) → (LacksInput plan (Some one_byte) name → ⊥)
    × (LacksInput plan None name → ⊥) × (LacksInput (refuses text) (Some no_file) name → ⊥)
known_lacked plan text name = (
  λ lacks. none_is_some (7 ∷ []) (sym (lacks.lacks.missing one_byte refl)),
  λ lacks. true≢false (sym lacks.lacks.visible),
  λ lacks. lacks.attempted,
)
