use Rattle.std.proofs.Common.{◌≡◌, ◌++◌, drop}
use Rattle.stitch_trace.proofs.Names.{contains, chains_of, is_same_directed_link, needle_moves_from, chains_after, new_moves_by}
use Rattle.stitch_trace.proofs.chains.chains.Given as goal

-- the chains so far, and those of the acts that are left
abbrev pub invariant-loop-a : goal.invariant-loop-a
invariant-loop-a l =
    l.chains ++ chains_after l.chain (new_moves_by (contains is_same_directed_link l.sewn)
    (needle_moves_from l.before (drop l.a-index l.acts)))
    ≡ chains_of l.acts
