use Rattle.std.proofs.Common.{◌≡◌, refl, rules, true, arith}
use Rattle.std.specs.Option.{is_some}
use Rattle.outside_io.proofs.Names.{file_in, nat_tests}
use Rattle.outside_io.proofs.EntryFiles.{file_in-put_in_other, file_in-with_entry, where_told}
use Rattle.outside_io.proofs.mem_store.MemStoreStore.append.Goals as goal

pub add_to_file-requires : goal.add_to_file-requires
add_to_file-requires c =
    let there : is_some (file_in c.args.self.now.entries c.args.name.now) ≡ true = c.requires.there _ refl in
    search rules

pub returns-clause-appends : goal.returns-clause-appends
returns-clause-appends c = record {
  added = grind (arith, nat_tests, where_told, file_in-with_entry);
  others = grind (arith, nat_tests, file_in-put_in_other);
  cause = search rules;
}
