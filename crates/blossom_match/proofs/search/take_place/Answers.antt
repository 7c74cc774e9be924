use Rattle.std.proofs.Common.{List, ℕ, length, get_or, ◌<◌, ◌≡◌, subst}
use Rattle.blossom_match.proofs.SearchLemmas.{taken_place}
use Rattle.blossom_match.proofs.search.take_place.Goals as goal

pub returns-clause-counts : goal.returns-clause-counts
returns-clause-counts c = λ x.
    taken_place x c.args.places.now.items c.remove-taken.new.self.items c.index_of-at.result c.args.place
    (subst (λ (ks : List ℕ). c.index_of-at.result < length ks) c.deref.ensures.value c.index_of-at.ensures.within)
    (subst (λ (ks : List ℕ). get_or ks c.index_of-at.result 0 ≡ c.args.place) c.deref.ensures.value c.index_of-at.ensures.there)
    c.remove-taken.ensures.items
