use Rattle.std.proofs.Common.{refl}
use Rattle.odd_sets.proofs.Names.{branch_in, set_in}
use Rattle.odd_sets.proofs.AugmentLemmas.{keeps_hand, takes_hand}
use Rattle.odd_sets.proofs.branches.Exposed.pair_at.Goals as goal

pub returns-then-holds : goal.returns-then-holds
returns-then-holds c =
    let sets = c.args.sets.now in
    takes_hand (set_in sets c.args.self.now.set) c.args.self.now.way (branch_in sets c.args.b) (c.if-holds.ensures.yes refl)

pub returns : goal.returns
returns c =
    let sets = c.args.sets.now in
    keeps_hand (set_in sets c.args.self.now.set) c.args.self.now.way (branch_in sets c.args.b) (c.if-holds.ensures.no refl)
