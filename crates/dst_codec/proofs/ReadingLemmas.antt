-- A file after its header, and what was loaded of it.
use Rattle.std.proofs.Common.{◌≡◌, ℕ, ◌≤◌, List, [], ◌++◌, length, arith, length-append}
use Rattle.std.proofs.Math.Seq.{drop-append_seam}
use Rattle.dst_codec.proofs.Names.{nat_tests, loaded_with, file_commands, HEADER_LENGTH, dst_reads, dst_records_from, dst_records_in, dst_label_of}

-- a file that is not too short reads as its label and its records
pub dst_reads-long : (bytes : List ℕ) → HEADER_LENGTH ≤ length bytes
    → dst_reads bytes ≡ loaded_with (dst_label_of bytes) [] (file_commands (dst_records_in bytes))
dst_reads-long bytes long = grind (arith, nat_tests)

-- the records of a file are those after its header
pub dst_records_in-file : (head body : List ℕ) → length head ≡ HEADER_LENGTH
    → dst_records_in (head ++ body) ≡ dst_records_from 0 HEADER_LENGTH body
dst_records_in-file head body is = grind (arith, nat_tests, (drop-append_seam head body))

-- a file reads as its label and these
pub dst_reads-file : (head body : List ℕ) → length head ≡ HEADER_LENGTH
    → dst_reads (head ++ body) ≡ loaded_with (dst_label_of (head ++ body)) [] (file_commands (dst_records_from 0 HEADER_LENGTH body))
dst_reads-file head body is = grind (arith, nat_tests, length-append, dst_reads-long, dst_records_in-file)
