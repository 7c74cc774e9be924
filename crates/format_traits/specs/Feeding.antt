-- Feeding of a format object: the state that contracts see, and the meaning of each call.
use Rattle.std.specs.Prelude.{◌≡◌, ℕ, ◌+◌, Bool, true, false, List, [], ◌++◌, length, Result, Ok, Err}
use Rattle.design_model.specs.declared.command.Command.{Command}
use Rattle.design_model.specs.declared.memory.Memory.{Memory}
use Rattle.format_traits.specs.declared.fault.ReadFault.{ReadFault}
use Rattle.format_traits.specs.declared.fault.ReadFault.TheVariants as fault
use Rattle.format_traits.specs.declared.loaded.Loaded.{Loaded}
use Rattle.format_traits.specs.Laws.{DecodesTo}

-- The state of a format object that is fed a file in chunks. `spoiled` is true once memory ran out,
-- and `taken` is the number of bytes fed. `rest` is the result of the file, and `decoded` are its
-- commands, both as functions of the remaining bytes.
pub record FeedState : Type 0 where
  pub spoiled : Bool
  pub taken : ℕ
  pub rest : List ℕ → Result Loaded ReadFault
  pub decoded : List ℕ → List Command

-- A state in which nothing was fed: the remaining bytes are the entire file.
pub record HasNothingFed (reads : List ℕ → Result Loaded ReadFault) (shown : List ℕ → List Command)
    (f : FeedState) : Type 0 where
  pub sound : f.spoiled ≡ false
  pub taken : f.taken ≡ 0
  pub rest : (more : List ℕ) → f.rest more ≡ reads more
  pub decoded : (more : List ℕ) → f.decoded more ≡ shown more

-- A chunk was fed: the new state is the old one with the chunk before the remaining bytes.
pub record IsFed (old : FeedState) (chunk : List ℕ) (new : FeedState) : Type 0 where
  pub was : old.spoiled ≡ false
  pub sound : new.spoiled ≡ false
  pub taken : new.taken ≡ old.taken + length chunk
  pub rest : (more : List ℕ) → new.rest more ≡ old.rest (chunk ++ more)
  pub decoded : (more : List ℕ) → new.decoded more ≡ old.decoded (chunk ++ more)

-- Memory ran out while `size` bytes were fed: they count as fed, and the object is spoiled.
pub record IsSpoiled (old : FeedState) (size : ℕ) (new : FeedState) : Type 0 where
  pub spoiled : new.spoiled ≡ true
  pub taken : new.taken ≡ old.taken + size

-- Meaning of each answer of `feed`: the chunk was fed, or memory ran out.
abbrev pub Feeds : {T : Type 0} → FeedState → List ℕ → Result T Memory → FeedState → Type 0
Feeds old chunk (Ok _) new = IsFed old chunk new
Feeds old chunk (Err _) new = IsSpoiled old (length chunk) new

-- The file was finished: the answer is the result of the bytes that were fed, and nothing is fed of
-- the next file.
pub record IsFinishedFile (reads : List ℕ → Result Loaded ReadFault) (shown : List ℕ → List Command)
    (old : FeedState) (result : Result Loaded ReadFault) (new : FeedState) : Type 0 where
  pub was : old.spoiled ≡ false
  pub is : DecodesTo (old.rest []) result
  pub fresh : HasNothingFed reads shown new

-- Meaning of each answer of `finish`: the file's result, or out of memory.
abbrev pub Finishes : (List ℕ → Result Loaded ReadFault) → (List ℕ → List Command) → FeedState
    → Result Loaded ReadFault → FeedState → Type 0
Finishes reads shown old (Err fault.Memory) new = IsSpoiled old 0 new
Finishes reads shown old result new = IsFinishedFile reads shown old result new
