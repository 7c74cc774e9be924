use Rattle.std.proofs.Common.{◌∙◌}
use Rattle.odd_paths.proofs.terminal_blocks.columns.Goals as goal

pub fill-slow-requires-clause-blank : goal.fill-slow-requires-clause-blank
fill-slow-requires-clause-blank c = c.deref_mut.ensures.value ∙ c.in_ok-table.ensures
