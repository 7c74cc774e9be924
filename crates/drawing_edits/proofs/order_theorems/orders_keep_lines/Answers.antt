use Rattle.drawing_edits.proofs.OrderLemmas.{orders_permute}
use Rattle.drawing_edits.proofs.order_theorems.orders_keep_lines.Goals as goal

pub returns : goal.returns
returns c = orders_permute
