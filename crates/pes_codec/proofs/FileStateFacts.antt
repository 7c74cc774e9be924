-- Worked states of a PEC or PES file that is fed, at each of its stages, and what each state requires.
use Rattle.std.proofs.Common.{◌≡◌, ◌++◌, ℕ, ◌<◌, ◌≤◌, true, false, List, [], ◌∷◌, length, Err, codes, refl, arith}
use Rattle.format_traits.specs.Feeding.{FeedState}
use Rattle.format_traits.specs.declared.fault.ReadFault.TheVariants as fault
use Rattle.pes_codec.specs.FileStates.{AnswersFile, IsBehindFront, IsInFront, KeepsStage, block_feed_state, file_feed_state}
use Rattle.pes_codec.specs.declared.file_stage.FileStage.{FileStage}
use Rattle.pes_codec.specs.declared.file_stage.FileStage.TheVariants as stage
use Rattle.pes_codec.proofs.FileFacts.{block, target}
use Rattle.design_model.specs.declared.command.Command.TheVariants.{Stitch}
use Rattle.pes_codec.proofs.Names.{Pec, Pes, front_layout_of}

-- a block of which 5 bytes were fed, and one whose memory ran out
abbrev in_block : FeedState
in_block = record {
  spoiled = false;
  taken = 5;
  rest = λ bytes. Err (fault.Sequin (length bytes));
  decoded = λ bytes. Stitch target ∷ [];
}

abbrev spoiled : FeedState
spoiled = record { spoiled = true; taken = 5; rest = λ bytes. Err fault.Memory; decoded = λ bytes. [] }

-- 9 bytes of a file were fed, and 2 more are before its block
abbrev pec : FileStage → FeedState
pec at = file_feed_state (front_layout_of Pec) (codes "#PEC000") 9 2 in_block at

-- In the front all is to be read; behind it the missing bytes are, and then the block decides; after a refusal nothing is.
pub known_rest : ((pec stage.Front).rest (codes "1") ≡ Err (fault.Short 8))
    × ((pec stage.Front).rest [] ≡ Err (fault.Short 7))
    × ((pec stage.Behind).rest (1 ∷ []) ≡ Err (fault.Short 10))
    × ((pec stage.Behind).rest (1 ∷ 2 ∷ 3 ∷ 4 ∷ 5 ∷ []) ≡ Err (fault.Sequin 3))
    × ((pec stage.Refused).rest (1 ∷ []) ≡ Err (fault.Signature 0))
    × ((file_feed_state (front_layout_of Pes) (codes "#PEC000") 9 2 in_block stage.Front).rest [] ≡ Err (fault.Signature 0))
known_rest = (refl, refl, refl, refl, refl, refl)

pub known_decoded : ((pec stage.Front).decoded (codes "1" ++ block) ≡ Stitch target ∷ [])
    × ((pec stage.Behind).decoded (1 ∷ 2 ∷ []) ≡ Stitch target ∷ [])
    × ((pec stage.Behind).decoded (1 ∷ []) ≡ [])
    × ((pec stage.Refused).decoded block ≡ [])
known_decoded = (refl, refl, refl, refl)

-- memory runs out in the block alone, and the bytes of the file are counted
pub known_counts : ((pec stage.Front).taken ≡ 9) × ((pec stage.Front).spoiled ≡ false)
    × ((file_feed_state (front_layout_of Pec) [] 9 0 spoiled stage.Behind).spoiled ≡ true)
    × ((block_feed_state 2 9 in_block).taken ≡ 9) × ((block_feed_state 0 9 spoiled).spoiled ≡ true)
known_counts = (refl, refl, refl, refl, refl)

-- in the front 7 bytes are fewer than 8; behind it the block has at most the bytes of the file
pub known_front : (front : List ℕ) (taken : ℕ) → KeepsStage (front_layout_of Pec) front taken 0 in_block stage.Front
    → (length front < 8) × (taken ≡ length front)
known_front front taken keeps = (keeps.few, keeps.all)

pub none_in_front : (front : List ℕ) (taken : ℕ) → IsInFront (front_layout_of Pec) front taken spoiled → true ≡ false
none_in_front front taken keeps = keeps.sound

pub known_behind : (taken : ℕ) → IsBehindFront taken 0 spoiled → 5 ≤ taken
known_behind taken keeps = keeps.most

pub none_before : (taken : ℕ) → IsBehindFront taken 1 spoiled → true ≡ false
none_before taken keeps = keeps.sound (omega arith)

-- at the end the file has the result of no more bytes; out of memory the object stays spoiled
pub known_answer : (new : FeedState) → AnswersFile (pec stage.Refused) (Err (fault.Short 3)) new
    → (pec stage.Refused).rest [] ≡ Err (fault.Short 3)
known_answer new answers = answers.1

pub known_spoiled : (new : FeedState) → AnswersFile spoiled (Err (fault.Short 3)) new → true ≡ false
known_spoiled new answers = answers.0

pub known_memory : (new : FeedState) → AnswersFile (pec stage.Behind) (Err fault.Memory) new
    → (new.spoiled ≡ true) × (new.taken ≡ 9)
known_memory new spoils = (spoils.spoiled, spoils.taken)
