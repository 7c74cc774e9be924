use Rattle.drawing_text.proofs.OrderedTextLemmas.{ends_ordered}
use Rattle.drawing_text.proofs.theorems.texts_order_ends.Goals as goal

pub returns : goal.returns
returns c = ends_ordered
