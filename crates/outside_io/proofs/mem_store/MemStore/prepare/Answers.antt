use Rattle.std.proofs.Common.{arith}
use Rattle.std.proofs.lemmas.Bool.{cases_Bool}
use Rattle.outside_io.proofs.Names.{bytes_eq, bytes_eq-Decides, nat_tests}
use Rattle.outside_io.proofs.EntryFiles.{file_in-put_in_other, file_in-with_entry}
use Rattle.outside_io.proofs.mem_store.MemStore.prepare.Goals as goal

pub returns-clause-files : goal.returns-clause-files
returns-clause-files c = λ other. grind (
  arith,
  nat_tests,
  bytes_eq-Decides,
  file_in-with_entry,
  file_in-put_in_other,
  (cases_Bool (bytes_eq other c.args.name.now)),
)
