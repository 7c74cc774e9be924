use Rattle.std.proofs.Common.{◌≡◌, ◌<◌, ℕ, ◌||◌, drop, get_or, false}
use Rattle.odd_cuts.proofs.Names.{MAX_LINES, is_line_passed}
use Rattle.odd_cuts.proofs.passed_lines.passed_lines.Given as goal

-- a line is passed where it is by the passes that are left, or marked
abbrev pub invariant-loop-pass : goal.invariant-loop-pass
invariant-loop-pass l = (line : ℕ) → line < MAX_LINES
    → (is_line_passed line (drop l.pass-index l.walk) || get_or l.passed line false) ≡ is_line_passed line l.walk
