use Rattle.std.proofs.Common.{◌∙◌}
use Rattle.text_parts.proofs.PartLemmas.{place_found}
use Rattle.text_parts.proofs.splits.length_before.Goals as goal

pub returns-clause-value : goal.returns-clause-value
returns-clause-value c =
    c.unwrap_or.ensures ∙ place_found c.args.mark c.args.bytes.now c.memchr.result c.memchr.ensures
