-- Plans that decide: what a program proves of the plan of each of its orders.
use Rattle.std.specs.Prelude.{◌≡◌, ℕ, List, Option, Ok, Err}
use Rattle.outside_io.specs.Files.{Files}
use Rattle.program_shell.specs.Plans.{Makes, Plan, accepts, reads, refuses, satisfies}
use Rattle.program_shell.specs.Products.{ProductValue, output_names}
use Rattle.program_shell.specs.Programs.{Program}

-- No result of the plan is both made and refused.
abbrev pub IsExact : Plan → Type 0
IsExact (reads name next) = (bytes : List ℕ) → IsExact (next bytes)
IsExact (refuses text) = Unit {0}
IsExact (accepts Is) = Unit {0}
IsExact (satisfies Is) = (product : ProductValue) (text : List ℕ) → Is (Ok product)
    → Is (Err text)
    → ⊥

-- The plan of each order decides, and the outputs of its products are the files that the order
-- writes.
pub record IsSoundProgram {Order : Type 0} (program : Program Order) : Type 0 where
  pub exact : (order : Order) → IsExact (program.plan order)
  pub outputs : (order : Order) (files : Option Files) (product : ProductValue)
      → Makes (program.plan order) files product
      → output_names product.outputs ≡ program.outputs order
