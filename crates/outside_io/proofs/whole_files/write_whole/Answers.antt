use Rattle.std.proofs.Common.{[], rules}
use Rattle.outside_io.proofs.whole_files.write_whole.Goals as goal

pub returns : goal.returns
returns g c = record { holds = c.in_ok-append.ensures.added [] c.in_ok-create.ensures.holds; others = search rules; cause = search rules }
