use Rattle.std.proofs.Common.{refl}
use Rattle.program_shell.proofs.Names.{up_to}
use Rattle.program_shell.proofs.delivery.deliver.Goals as goal

pub returns-in-Err : goal.returns-in-Err
returns-in-Err g c = up_to c.in-Err.name.now (rw c.as_slice.ensures at c.in-Err.ensures.stops) refl c.report_cannot_write.ensures
