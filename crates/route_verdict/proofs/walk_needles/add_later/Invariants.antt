use Rattle.std.proofs.Common.{◌≡◌, ◌++◌, drop}
use Rattle.route_verdict.proofs.Names.{later_needles}
use Rattle.route_verdict.proofs.walk_needles.add_later.Given as goal

-- the needles so far, with those of the passes that are left, are all
abbrev pub invariant-loop-pass : goal.invariant-loop-pass
invariant-loop-pass l = l.points ++ later_needles l.d (drop l.pass-index l.walk) ≡ l.fn.points ++ later_needles l.d l.walk
