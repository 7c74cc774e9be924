use Rattle.std.proofs.Common.{sym, ◌∙◌}
use Rattle.line_meetings.proofs.TouchLemmas.{aside_apart}
use Rattle.line_meetings.proofs.touches.do_touch.Goals as goal

pub returns-then-lies_aside : goal.returns-then-lies_aside
returns-then-lies_aside c = aside_apart c.args.s.now c.args.t.now (sym c.lies_aside.ensures ∙ c.if-lies_aside.true)
