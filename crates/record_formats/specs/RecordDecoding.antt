-- Decoding of one record: what the next record of a file's remaining bytes is, and what a reader's
-- answer about it means.
use Rattle.std.specs.Prelude.{◌≡◌, ℕ, ◌+◌, ◌<◌, ◌≤◌, Bool, true, List, ◌++◌, length, drop, IsTrue}
use Rattle.std.specs.List.{list_all}
use Rattle.design_model.specs.Points.{is_point_within}
use Rattle.record_formats.specs.declared.event.Event.{Event}
use Rattle.record_formats.specs.declared.record_reader.NextRecord.{NextRecord}
use Rattle.record_formats.specs.declared.record_reader.NextRecord.TheVariants as cut
use Rattle.record_formats.specs.declared.record_reader.TheConstants.{MAX_RECORD_MOVE, MAX_RECORD}
use Rattle.record_formats.specs.Records.{Records, moves_of_event, over, refused, next}

-- A decoded record: for any bytes that follow, a record of `size` bytes begins at the offset. The
-- other records are those of the bytes after it. `before` and `after` are the records as the
-- reader's states before and after the call read them.
pub record IsDecodedRecord (before after : ℕ → List ℕ
    → Records) (at : ℕ) (bytes : List ℕ) (size : ℕ)
    (event : Event) : Type 0 where
  pub some : 0 < size
  pub there : size ≤ length bytes
  pub is : (more : List ℕ) → before at (bytes ++ more)
      ≡ next at event (after (at + size) (drop size bytes ++ more))
  pub small : IsTrue (list_all (λ move. is_point_within MAX_RECORD_MOVE move)
      (moves_of_event event))

-- An incomplete record: the bytes are too few for a record. The reader's state does not change, and
-- `ended` is true where a file that ends here is complete.
pub record IsIncompleteRecord (before after : ℕ → List ℕ → Records) (at : ℕ) (bytes : List ℕ)
    (ended : Bool) : Type 0 where
  pub few : length bytes < MAX_RECORD
  pub same : (at : ℕ) (bytes : List ℕ) → before at bytes ≡ after at bytes
  pub is : before at bytes ≡ over ended

-- Meaning of each answer of a record reader's `next`.
abbrev pub DecodesRecord : (before after : ℕ → List ℕ → Records) → ℕ → List ℕ → NextRecord → Type 0
DecodesRecord before after at bytes cut.End = (more : List ℕ)
    → before at (bytes ++ more) ≡ over true
DecodesRecord before after at bytes (cut.Incomplete ended) = IsIncompleteRecord before after at
    bytes ended
DecodesRecord before after at bytes (cut.Refused f) =
    (more : List ℕ) → before at (bytes ++ more) ≡ refused f
DecodesRecord before after at bytes (cut.Record event size) = IsDecodedRecord before after at bytes
    size event
