use Rattle.std.proofs.Common.{◌≡◌, ◌≤◌, ◌+◌, ◌*◌, length}
use Rattle.drawing_reports.specs.FreeTexts.{free_penetrations}
use Rattle.drawing_reports.proofs.free_texts.free_sum.Given as goal

-- the sum so far, with what is left, which leaves room
abbrev pub invariant-loop-one : goal.invariant-loop-one
invariant-loop-one l = record {
  whole : l.sum + free_penetrations l.rest ≡ free_penetrations l.found;
  room : l.sum + 4294967296 * length l.rest ≤ 4294967296 * length l.found;
}

abbrev pub decreases-loop-one : goal.decreases-loop-one
decreases-loop-one l = length l.rest
