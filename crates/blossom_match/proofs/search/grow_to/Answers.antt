use Rattle.std.proofs.Common.{refl}
use Rattle.blossom_match.proofs.Names.{branches_in, match_in, matches_in, set_in, search_value, branch_by_edge}
use Rattle.blossom_match.proofs.SearchLemmas.{hung}
use Rattle.blossom_match.proofs.PartialMatchingLemmas.{grown_sets}
use Rattle.blossom_match.proofs.search.grow_to.Goals as goal

pub returns-clause-advances : goal.returns-clause-advances
returns-clause-advances c =
    hung c.args.link (search_value c.args.s) _ _ (match_in c.args.s.sets c.take_match-matched.result) c.take_match-matched.ensures
    c.in_ok-grow.ensures

pub returns-clause-hangs : goal.returns-clause-hangs
returns-clause-hangs c = record {
  branch = branch_by_edge c.args.link (match_in c.args.s.sets c.take_match-matched.result);
  tree = c.in_ok-grow.ensures;
  root = refl;
}

pub invariant_of-result : goal.invariant_of-result
invariant_of-result c =
    let s = c.args.s in
    record {
      stand = grown_sets s.sets c.args.link.to c.args.link (set_in s.sets s.root) (branches_in s.sets s.tree.items) _
          (matches_in s.sets s.rest.items) _ (match_in s.sets c.take_match-matched.result) c.take_match-matched.ensures
          c.in_ok-grow.ensures
          s.stand;
    }
