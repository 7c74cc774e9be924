use Rattle.std.proofs.Common.{◌≡◌, ◌++◌, drop}
use Rattle.program_texts.specs.DesignReports.{block_lines}
use Rattle.program_texts.proofs.design_reports.put_blocks.Given as goal

-- the lines so far, and those of the blocks that are left
abbrev pub invariant-loop-place : goal.invariant-loop-place
invariant-loop-place l =
    l.text ++ block_lines l.design l.place (drop l.place l.needles) ≡ l.fn.text ++ block_lines l.design 0 l.needles
