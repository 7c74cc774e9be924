-- Looking for the last dot of a name from its front.
use Rattle.std.proofs.Common.{ℕ, List, Option, Some, None}

-- the later of two endings, where there is one
abbrev pub later : Option (List ℕ) → Option (List ℕ) → Option (List ℕ)
later earlier (Some ending) = Some ending
later earlier None = earlier
