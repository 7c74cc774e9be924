use Rattle.std.proofs.Common.{List, [], subst}
use Rattle.blossom_match.proofs.Names.{matches_in, TakesApartMatches, Moat, Pair}
use Rattle.blossom_match.proofs.EndLemmas.{matched, once_each}
use Rattle.blossom_match.proofs.matching.match_all.Goals as goal

pub take_matches-requires-clause-joined : goal.take_matches-requires-clause-joined
take_matches-requires-clause-joined c = c.in_ok-found.ensures.stands.standing.joined

pub take_matches-requires-clause-once : goal.take_matches-requires-clause-once
take_matches-requires-clause-once c = once_each c.args.t.now (matches_in c.in_ok-found.found.sets c.in_ok-found.found.matches.items)
    c.in_ok-found.ensures

pub returns : goal.returns
returns c =
    matched c.args.t.now (matches_in c.in_ok-found.found.sets c.in_ok-found.found.matches.items) c.take_matches.new.pairs
    c.take_matches.new.moats c.in_ok-found.ensures
    (subst (λ (ps : List Pair). TakesApartMatches (matches_in c.in_ok-found.found.sets c.in_ok-found.found.matches.items) ps
    c.take_matches.new.pairs [] c.take_matches.new.moats)
    c.new-pairs.ensures
    (subst (λ (ms : List Moat). TakesApartMatches (matches_in c.in_ok-found.found.sets c.in_ok-found.found.matches.items)
    c.new-pairs.result
    c.take_matches.new.pairs ms
    c.take_matches.new.moats) c.new-moats.ensures c.in_ok-take_matches.ensures))
