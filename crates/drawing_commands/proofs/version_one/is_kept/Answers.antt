use Rattle.drawing_commands.proofs.VersionOneLemmas.{joined_by_count}
use Rattle.drawing_commands.proofs.version_one.is_kept.Goals as goal

pub returns : goal.returns
returns c = rw (c.as_slice.ensures.value, c.in_ok-sections.ensures.value, c.lines-lines.ensures) (joined_by_count c.args.drawing.now
    c.keeps_limits.ensures.limits c.whole_lines_stay.ensures c.sections_are_whole.ensures)
