use Rattle.std.proofs.Common.{List, ap, length, ltb, ◌∙◌}
use Rattle.odd_sets.proofs.Names.{members_at, parts_at, BlossomPart}
use Rattle.odd_sets.proofs.SlotLemmas.{parts_show}
use Rattle.odd_sets.proofs.odd_set.Handle.is_blossom.Goals as goal

pub returns : goal.returns
returns c =
    ap (λ (ps : List BlossomPart). ltb 0 (length ps)) c.parts.ensures
    ∙ parts_show (length (members_at c.args.sets.now c.args.self.key)) c.args.sets.now (parts_at c.args.sets.now c.args.self.key)
