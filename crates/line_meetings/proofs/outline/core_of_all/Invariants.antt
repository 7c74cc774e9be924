use Rattle.std.proofs.Common.{drop}
use Rattle.line_meetings.specs.declared.part_core.Core.{Core}
use Rattle.line_meetings.specs.Cores.{HasCore, HaveCore}
use Rattle.line_meetings.proofs.outline.core_of_all.Given as goal

-- what this core and the parts that are left have inside, all have
abbrev pub invariant-loop-part : goal.invariant-loop-part
invariant-loop-part l = (g : Core) → HasCore l.core g → HaveCore g (drop l.part-index l.parts) → HaveCore g l.parts
