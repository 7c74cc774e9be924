-- What a block reads as.
use Rattle.std.proofs.Common.{◌≡◌, ℕ, ◌+◌, ◌≤◌, List, length, drop, ap, arith}
use Rattle.pec_codec.proofs.Names.{le-ltb, length-drop, loaded_with, file_commands, HEADER_LENGTH, pec_label_of, threads_in, pec_block_reads, pec_block_records, pec_records, drop-drop, pec_block_layout}
use Rattle.record_formats.specs.Layouts.{layout_reads}

-- a file that reaches to the block
pub reads_there : (at : ℕ) (bytes block : List ℕ) → block ≡ drop at bytes → at ≤ length bytes
    → layout_reads pec_block_layout at block ≡ pec_block_reads at bytes
reads_there at bytes block is there = rw (le-ltb (length bytes) at there) (ap (layout_reads pec_block_layout at) is)

-- a file that reaches to the records
pub reads-long : (at : ℕ) (bytes : List ℕ) → at + HEADER_LENGTH ≤ length bytes
    → pec_block_reads at bytes ≡ loaded_with (pec_label_of (drop at bytes)) (threads_in (drop at bytes))
    (file_commands (pec_block_records at bytes))
reads-long at bytes there =
    let block = drop at bytes in
    let begun : at ≤ length bytes = omega (arith, there) in
    let long : HEADER_LENGTH ≤ length block = omega (arith, there, length-drop at bytes) in
    rw (le-ltb (length bytes) at begun, le-ltb (length block) HEADER_LENGTH long)
    (ap (λ rest. loaded_with (pec_label_of block) (threads_in block) (file_commands (pec_records (at + HEADER_LENGTH) rest)))
    (drop-drop HEADER_LENGTH at bytes))
