use Rattle.std.proofs.Common.{get_or, refl}
use Rattle.blossom_match.proofs.Names.{count_at}
use Rattle.blossom_match.proofs.initial_duals.tight_place.Goals as goal

pub is_tight-requires-clause-other_in : goal.is_tight-requires-clause-other_in
is_tight-requires-clause-other_in c = c.requires.lies.others (get_or c.args.free.now c.loop-other.other-index 0)
    (count_at c.args.free.now c.loop-other.other-index c.loop-other-test.true)

pub is_tight-requires-clause-low : goal.is_tight-requires-clause-low
is_tight-requires-clause-low c = c.requires.lies.slack (get_or c.args.free.now c.loop-other.other-index 0)
    (c.requires.lies.others (get_or c.args.free.now c.loop-other.other-index 0)
    (count_at c.args.free.now c.loop-other.other-index c.loop-other-test.true))

pub returns-then-is_tight : goal.returns-then-is_tight
returns-then-is_tight c = record {
  here = count_at c.args.free.now c.loop-other.other-index c.loop-other-test.true;
  pair =
      c.if-is_tight.ensures refl;
}
