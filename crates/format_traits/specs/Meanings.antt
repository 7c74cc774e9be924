-- The meaning of a format object: six values by which contracts know it.
use Rattle.std.specs.Prelude.{ℕ, List, Result}
use Rattle.design_model.specs.declared.command.Command.{Command}
use Rattle.design_model.specs.declared.point.Point.{Point}
use Rattle.design_model.specs.Designs.{DesignValue}
use Rattle.format_traits.specs.declared.fault.ReadFault.{ReadFault}
use Rattle.format_traits.specs.declared.fault.WriteFault.{WriteFault}
use Rattle.format_traits.specs.declared.loaded.Loaded.{Loaded}

-- The meaning of a format. `ending` is that of its file names, `limit` the greatest move of a
-- stitch on each axis, in tenths of a millimetre. `reads` is the result of reading a file's bytes,
-- `writes` that of writing a design. `moves` are the moves of a file's records before its end or
-- its first refusal. `shown` are the commands of the records that are complete in the bytes.
pub record Meaning : Type 0 where
  pub ending : List ℕ
  pub limit : ℕ
  pub reads : List ℕ → Result Loaded ReadFault
  pub writes : DesignValue → Result (List ℕ) WriteFault
  pub moves : List ℕ → List Point
  pub shown : List ℕ → List Command
