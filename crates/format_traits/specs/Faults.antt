-- Faults that report out of memory.
use Rattle.std.specs.Prelude.{Bool, true, false}
use Rattle.format_traits.specs.declared.fault.ReadFault.{ReadFault}
use Rattle.format_traits.specs.declared.fault.ReadFault.TheVariants as read
use Rattle.format_traits.specs.declared.fault.WriteFault.{WriteFault}
use Rattle.format_traits.specs.declared.fault.WriteFault.TheVariants as write

-- True for the fault of reading that reports out of memory.
abbrev pub read_is_out_of_memory : ReadFault → Bool
read_is_out_of_memory read.Memory = true
read_is_out_of_memory other = false

-- True for the fault of writing that reports out of memory.
abbrev pub write_is_out_of_memory : WriteFault → Bool
write_is_out_of_memory write.Memory = true
write_is_out_of_memory other = false
