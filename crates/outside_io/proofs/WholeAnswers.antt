-- If no fault is counted, the file determines the result of reading it.
use Rattle.std.proofs.Common.{◌≡◌, ℕ, List, Ok, Err, Option, Result, arith}
use Rattle.outside_io.proofs.Names.{ReadsWholeFile, whole_file_result, IsFileLonger, IsFaultless, WhereVisible, StoreView, nat_tests, get_is_out_of_memory}
use Rattle.outside_io.specs.declared.whole_files.GetFault.{GetFault}
use Rattle.outside_io.specs.declared.whole_files.GetFault.TheVariants as fault
use Rattle.design_model.specs.OutOfMemory.{IsSpecified}
use Rattle.outside_io.proofs.CallerLemmas.{no_rise}

-- a longer file is refused
longer_answer : (file : Option (List ℕ)) (limit : ℕ) → IsFileLonger file limit → whole_file_result file limit ≡ Err fault.TooLong
longer_answer file limit h1 = grind (arith, nat_tests)

-- Each possible result is then that of the file, or out of memory.
pub decided : (name : List ℕ) (limit : ℕ) (old new : StoreView) (result : Result (List ℕ) GetFault) →
    ReadsWholeFile name limit old new result → IsFaultless old.faults new.faults →
    WhereVisible old.files (λ told. IsSpecified get_is_out_of_memory (whole_file_result (told name) limit) result)
decided name limit old new (Ok bytes) reads still told is = grind (arith, nat_tests, reads.0, (reads.1 told is))
decided name limit old new (Err fault.Missing) reads still told is = grind (arith, nat_tests, (reads.0.missing told is))
decided name limit old new (Err fault.Failed) reads still told is = absurd (no_rise old.faults new.faults still reads.rose)
decided name limit old new (Err fault.TooLong) reads still told is = longer_answer (told name) limit (reads.0 told is)
decided name limit old new (Err fault.Memory) reads still told is = tt
