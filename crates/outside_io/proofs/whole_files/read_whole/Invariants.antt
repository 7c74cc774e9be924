use Rattle.std.proofs.Common.{◌≡◌, ◌≤◌, ◌+◌, ◌-◌, length}
use Rattle.outside_io.proofs.Names.{HasNoNewFault, IsFilePrefix}
use Rattle.outside_io.proofs.whole_files.read_whole.Given as goal

-- The bytes read so far are a prefix of the file, if it is visible.
abbrev pub invariant-loop-bytes : goal.invariant-loop-bytes
invariant-loop-bytes g l = record {
  same : (g.S.Store.view l.store).files ≡ (g.S.Store.view l.fn.store).files;
  stays : HasNoNewFault (g.S.Store.view l.fn.store) (g.S.Store.view l.store);
  short : length l.bytes ≤ l.limit;
  room : length l.buffer ≡ 16384;
  begins : IsFilePrefix (g.S.Store.view l.fn.store).files l.name l.bytes;
}

abbrev pub decreases-loop-bytes : goal.decreases-loop-bytes
decreases-loop-bytes g l = l.limit + 1 - length l.bytes
