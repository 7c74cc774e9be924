use Rattle.std.proofs.Common.{◌≡◌}
use Rattle.blossom_match.proofs.Names.{search_value, search_size}
use Rattle.blossom_match.proofs.phase.pair_up.Given as goal

-- a search over the table with the same free places
abbrev pub invariant-steps : goal.invariant-steps
invariant-steps l = record {
  table : l.now.t.now ≡ l.t;
  free : l.now.search.free.items ≡ l.fn.from.free.items;
}

abbrev pub decreases-steps : goal.decreases-steps
decreases-steps l = search_size (search_value l.now.search)
