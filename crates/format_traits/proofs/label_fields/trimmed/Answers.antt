use Rattle.std.proofs.Common.{sym, ◌∙◌}
use Rattle.format_traits.proofs.LabelLemmas.{without_end_spaces-drops, without_end_spaces-stays}
use Rattle.format_traits.proofs.label_fields.trimmed.Goals as goal

pub returns-then-last-ne32 : goal.returns-then-last-ne32
returns-then-last-ne32 c = sym (without_end_spaces-stays c.loop-rest.rest.now c.in-len1-up.len_at_least c.if-last-ne32.true)
    ∙ c.loop-rest.invariant

pub loop-rest-preserved : goal.loop-rest-preserved
loop-rest-preserved c = without_end_spaces-drops c.loop-rest.rest.now c.in-len1-up.len_at_least c.if-last-ne32.false
    ∙ c.loop-rest.invariant
