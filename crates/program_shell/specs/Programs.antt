-- A program: what a run of it depends on, beside its arguments and the outside.
use Rattle.std.specs.Prelude.{ℕ, List}
use Rattle.program_shell.specs.Plans.{Plan}

-- A program over orders, which are what its arguments can request: its name, its usage text, the
-- plan of each order, and the names of the files that the order writes, in the order of writing.
pub record Program (Order : Type 0) : Type 1 where
  pub name : List ℕ
  pub usage : List ℕ
  pub plan : Order → Plan
  pub outputs : Order → List (List ℕ)
