use Rattle.std.proofs.Common.{rules, arith}
use Rattle.outside_io.proofs.Names.{nat_tests}
use Rattle.outside_io.proofs.EntryFiles.{file_in-put_in_other, file_in-with_entry, where_told}
use Rattle.outside_io.proofs.mem_store.MemStoreStore.create.Goals as goal

pub returns-clause-writes : goal.returns-clause-writes
returns-clause-writes c = record {
  holds = grind (arith, nat_tests, where_told, file_in-with_entry);
  others = grind (arith, nat_tests, file_in-put_in_other);
  cause = search rules;
}
