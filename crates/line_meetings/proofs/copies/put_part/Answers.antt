use Rattle.std.proofs.Common.{sym, ◌∙◌}
use Rattle.line_meetings.proofs.CopyLemmas.{first_added}
use Rattle.line_meetings.proofs.copies.put_part.Goals as goal

pub returns-clause-firsts : goal.returns-clause-firsts
returns-clause-firsts c =
    first_added _ _ _ _ _ _ c.key-key.ensures c.requires (sym c.first_copy.ensures ∙ c.in_default.is) c.in_ok-push-2.ensures.items
    c.in_ok-put_first.ensures
