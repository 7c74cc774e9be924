use Rattle.std.proofs.Common.{◌≡◌, ◌++◌, drop}
use Rattle.odd_sets.proofs.Names.{members_in, parts_in}
use Rattle.odd_sets.proofs.odd_set.members_of.Given as goal

-- the members so far and those of the parts that are left
abbrev pub invariant-loop-p : goal.invariant-loop-p
invariant-loop-p l = l.members.items ++ members_in (drop l.p-index (parts_in l.sets l.parts)) ≡ members_in (parts_in l.sets l.parts)
