use Rattle.std.proofs.Common.{◌≡◌, ◌++◌, drop, length}
use Rattle.stitch_trace.proofs.Names.{blocks_of, strands_from}
use Rattle.stitch_trace.proofs.strands.strands.Given as goal

-- the strands so far, and those of the blocks that are left
abbrev pub invariant-loop-some : goal.invariant-loop-some
invariant-loop-some l = record {
  count : length l.yielded ≡ l.block;
  all : l.strands.items ++ strands_from l.design l.block (drop l.block (blocks_of l.acts)) ≡ strands_from l.design 0 (blocks_of l.acts);
}
