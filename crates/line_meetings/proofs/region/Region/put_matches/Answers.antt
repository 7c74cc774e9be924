use Rattle.std.proofs.Common.{◌∙◌, sym}
use Rattle.line_meetings.proofs.OutlineLemmas.{none_apart, none_left}
use Rattle.line_meetings.proofs.region.Region.put_matches.Goals as goal

pub returns-then-is_apart : goal.returns-then-is_apart
returns-then-is_apart c = none_apart _ _ _ _ _ c.requires c.outline.ensures (sym c.is_apart.ensures ∙ c.if-is_apart.true)

pub returns-then-leaves_out : goal.returns-then-leaves_out
returns-then-leaves_out c = none_left _ _ _ _ _ c.requires c.outline-2.ensures (sym c.leaves_out.ensures ∙ c.if-leaves_out.true)
