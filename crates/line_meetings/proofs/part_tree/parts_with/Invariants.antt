use Rattle.std.proofs.Common.{◌≡◌, ◌++◌, drop}
use Rattle.line_meetings.specs.IndexedParts.{parts_at}
use Rattle.line_meetings.proofs.part_tree.parts_with.Given as goal

-- the parts so far, and those at the indexes that are left, are all
abbrev pub invariant-loop-index : goal.invariant-loop-index
invariant-loop-index l = l.found.items ++ parts_at l.parts (drop l.index-index l.indexes) ≡ parts_at l.parts l.indexes
