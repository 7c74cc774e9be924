use Rattle.std.proofs.Common.{arith, length-append, ◌∷◌, []}
use Rattle.blossom_match.proofs.Names.{nat_tests}
use Rattle.blossom_match.proofs.EndLemmas.{places_more}
use Rattle.blossom_match.proofs.initial_duals.all_places.Goals as goal

pub loop-place-preserved : goal.loop-place-preserved
loop-place-preserved c = record {
  counts = λ x. places_more x c.loop-place.place c.loop-place.places.items _ c.in_ok-push.ensures.items (c.loop-place.invariant.counts x);
  size = grind (arith, nat_tests, c.loop-place.invariant.size, length-append c.loop-place.places.items (c.loop-place.place ∷ []));
}
