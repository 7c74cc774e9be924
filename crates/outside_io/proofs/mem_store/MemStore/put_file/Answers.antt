use Rattle.std.proofs.Common.{arith}
use Rattle.outside_io.proofs.Names.{nat_tests}
use Rattle.outside_io.proofs.EntryFiles.{file_in-put_in_other, file_in-with_entry}
use Rattle.outside_io.proofs.mem_store.MemStore.put_file.Goals as goal

pub returns-clause-file : goal.returns-clause-file
returns-clause-file c = grind (arith, nat_tests, file_in-with_entry)

pub returns-clause-others : goal.returns-clause-others
returns-clause-others c = grind (arith, nat_tests, file_in-put_in_other)
