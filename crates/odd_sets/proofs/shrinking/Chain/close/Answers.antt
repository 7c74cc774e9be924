use Rattle.std.proofs.Common.{List, subst, sym, ◌∙◌}
use Rattle.odd_sets.proofs.Names.{IsBlossom, parts_in, set_in, BlossomPart}
use Rattle.odd_sets.proofs.ShrinkLemmas.{blossom_from}
use Rattle.odd_sets.proofs.shrinking.Chain.close.Goals as goal

pub blossom_of-requires-clause-blossom : goal.blossom_of-requires-clause-blossom
blossom_of-requires-clause-blossom c =
    let sets = c.args.sets.now in
    subst (λ (ps : List BlossomPart). IsBlossom (parts_in sets ps)) (sym (c.in_ok-parts.ensures ∙ c.in_ok-push_front.ensures.items))
    (blossom_from (set_in sets c.args.top) c.args.self.way (parts_in sets c.args.self.parts.items) c.args.self.to c.requires.can
    c.requires.kept)
