use Rattle.std.proofs.Common.{length, List, ◌<◌, subst}
use Rattle.odd_sets.proofs.Names.{PartHoldsAt, part_in, parts_in, BlossomPart}
use Rattle.odd_sets.proofs.BlossomLemmas.{first_turned, turned_in}
use Rattle.odd_sets.proofs.blossom.turned_to.Goals as goal

pub returns-clause-turned : goal.returns-clause-turned
returns-clause-turned c =
    turned_in (part_in c.args.sets.now) c.args.parts.items c.rotate_left.new.self.items c.part_with-at.result
    (subst (λ (ps : List BlossomPart). c.part_with-at.result < length ps) c.deref.ensures.value c.part_with-at.ensures.within)
    c.rotate_left.ensures.items

pub returns-clause-first : goal.returns-clause-first
returns-clause-first c =
    first_turned (part_in c.args.sets.now) c.args.place c.args.parts.items c.rotate_left.new.self.items c.part_with-at.result
    c.rotate_left.ensures.items
    (subst (λ (ps : List BlossomPart). PartHoldsAt c.args.place (parts_in c.args.sets.now ps) c.part_with-at.result) c.deref.ensures.value
    c.part_with-at.ensures.there)
