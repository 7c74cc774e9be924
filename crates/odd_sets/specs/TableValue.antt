-- The value of a table of distances in contracts.
use Rattle.std.specs.Prelude.{ℕ, List}

-- A table of distances: the number of its places, and its rows one after another.
pub record TableValue : Type 0 where
  pub places : ℕ
  pub cells : List ℕ
