use Rattle.std.proofs.Common.{false}
use Rattle.odd_cuts.proofs.TableLemmas.{blank}
use Rattle.odd_cuts.proofs.passed_lines.none_passed.Goals as goal

pub returns : goal.returns
returns c = λ line. blank false 1024 line
