use Rattle.std.proofs.Common.{◌+◌, ◌*◌, length}
use Rattle.blossom_match.proofs.Names.{into_iter_items, dual_sets, match_dual_sets, IsTakingApart, matches_in, set_in, AreSets}
use Rattle.blossom_match.proofs.taking.+taking.Given as goal

abbrev pub decreases-take_matches : goal.decreases-take_matches
decreases-take_matches l = 2 * length (match_dual_sets (matches_in l.sets.now l.matches.items)) + 1

abbrev pub decreases-take_apart : goal.decreases-take_apart
decreases-take_apart l = 2 * length (dual_sets (set_in l.sets.now l.s))

-- the pairs and moats so far, and the matches that are left
abbrev pub invariant-take_matches-loop-c : goal.invariant-take_matches-loop-c
invariant-take_matches-loop-c l =
    record {
      taking : IsTakingApart (matches_in l.sets l.fn.matches.items) (matches_in l.sets (into_iter_items l.rest)) l.fn.pairs l.pairs
          l.fn.moats
          l.moats;
      sets : AreSets l.sets (match_dual_sets (matches_in l.sets (into_iter_items l.rest)));
    }

abbrev pub decreases-take_matches-loop-c : goal.decreases-take_matches-loop-c
decreases-take_matches-loop-c l = length (into_iter_items l.rest)
