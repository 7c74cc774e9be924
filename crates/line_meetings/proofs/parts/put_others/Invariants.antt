use Rattle.std.proofs.Common.{◌≡◌, ◌++◌, drop, filter, not}
use Rattle.line_meetings.proofs.Names.{is_line_end}
use Rattle.line_meetings.proofs.parts.put_others.Given as goal

-- the others so far, and those of the parts that are left, are all
abbrev pub invariant-loop-part : goal.invariant-loop-part
invariant-loop-part l = l.parts.items ++ filter (λ s. not (is_line_end s)) (drop l.part-index l.all)
    ≡ l.fn.parts.items ++ filter (λ s. not (is_line_end s)) l.all
