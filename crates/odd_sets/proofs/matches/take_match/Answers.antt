use Rattle.std.proofs.Common.{List, length, ◌<◌, subst}
use Rattle.odd_sets.proofs.Names.{MatchHolds, match_in, matches_in, Match}
use Rattle.odd_sets.proofs.MatchLemmas.{taken_out}
use Rattle.odd_sets.proofs.ListLemmas.{mapped_at, mapped_low, mapped_removed}
use Rattle.odd_sets.proofs.matches.take_match.Goals as goal

pub returns : goal.returns
returns c =
    let sets = c.args.sets.now in
    let at = c.match_with-at.result in
    taken_out c.args.place (matches_in sets c.args.matches.now.items) _ at (match_in sets c.remove.result)
    (mapped_low (match_in sets) c.args.matches.now.items at
    (subst (λ (ks : List Match). at < length ks) c.deref.ensures.value c.match_with-at.ensures.within))
    (mapped_at (match_in sets) c.args.matches.now.items at c.remove.result c.remove.ensures.value)
    (mapped_removed (match_in sets) c.args.matches.now.items c.remove.new.self.items at c.remove.ensures.items)
    (subst (λ (ks : List Match). MatchHolds c.args.place (matches_in sets ks) at) c.deref.ensures.value
    c.match_with-at.ensures.there)
