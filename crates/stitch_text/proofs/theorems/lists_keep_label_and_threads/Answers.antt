use Rattle.stitch_text.proofs.KeptLemmas.{keeps_label_and_threads}
use Rattle.stitch_text.proofs.theorems.lists_keep_label_and_threads.Goals as goal

pub returns : goal.returns
returns c = keeps_label_and_threads c.accepted_designs_are_small.ensures
