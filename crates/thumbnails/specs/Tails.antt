-- What follows the end record of a PEC block is not read.
use Rattle.std.specs.Prelude.{◌≡◌, ℕ, Bool, true, false, List, ◌++◌, replicate}
use Rattle.pec_codec.specs.Records.{records_after_skip}
use Rattle.record_formats.specs.Records.{Records, next, over, refused}

-- The test whether records are those of a file that has an end.
abbrev pub has_end : Records → Bool
has_end (over ended) = ended
has_end (refused f) = false
has_end (next at event rest) = has_end rest

-- Theorem: bytes that have an end before blank thumbnails have the same records before any others.
abbrev pub TailsAreNotRead : Type 0
TailsAreNotRead = (bytes tail : List ℕ) (blank behind at : ℕ)
    → has_end (records_after_skip behind at (bytes ++ replicate blank 0)) ≡ true
    → records_after_skip behind at (bytes ++ tail)
    ≡ records_after_skip behind at (bytes ++ replicate blank 0)
