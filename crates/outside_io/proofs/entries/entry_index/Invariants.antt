use Rattle.outside_io.proofs.EntryPlaces.{Passed}
use Rattle.outside_io.proofs.entries.entry_index.Given as goal

abbrev pub invariant-loop-place : goal.invariant-loop-place
invariant-loop-place l = Passed l.entries l.name l.place
