use Rattle.std.proofs.Common.{sym, ◌∙◌}
use Rattle.outside_io.proofs.EntryPlaces.{passed-here}
use Rattle.outside_io.proofs.entries.entry_index.Goals as goal

pub returns-then-is_named-clause-some : goal.returns-then-is_named-clause-some
returns-then-is_named-clause-some c =
    passed-here _ _ _ _ c.loop-place.invariant c.loop-place-test.true c.index-entries-place.is (sym c.is_named.ensures ∙ c.if-is_named.true)
