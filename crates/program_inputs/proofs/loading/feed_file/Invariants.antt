use Rattle.std.proofs.Common.{◌≡◌, ◌-◌, ◌+◌, ◌≤◌, length}
use Rattle.outside_io.specs.Causes.{HasNoNewFault}
use Rattle.program_inputs.proofs.LoadLemmas.{IsPartFed}
use Rattle.program_inputs.proofs.loading.feed_file.Given as goal

-- the first bytes of the file were fed
abbrev pub invariant-loop-count : goal.invariant-loop-count
invariant-loop-count g l =
    let here = goal.Format-dyn g (l.format.vtable, l.format.value) in
    let first = goal.Format-dyn g (l.fn.format.vtable, l.fn.format.value) in
    record {
      files : (g.S.Store.view l.store).files ≡ (g.S.Store.view l.fn.store).files;
      stays : HasNoNewFault (g.S.Store.view l.fn.store) (g.S.Store.view l.store);
      near : l.at ≤ 67108864;
      room : length l.buffer ≡ 16384;
      same : here.meaning l.format.value ≡ first.meaning l.fn.format.value;
      fed : IsPartFed (first.meaning l.fn.format.value).reads (g.S.Store.view l.fn.store).files l.name l.at
          (here.feed_state l.format.value);
    }

abbrev pub decreases-loop-count : goal.decreases-loop-count
decreases-loop-count g l = 67108864 + 1 - l.at
