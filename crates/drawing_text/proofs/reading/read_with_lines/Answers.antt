use Rattle.drawing_text.proofs.reading.read_with_lines.Goals as goal

pub returns-clause-ordered : goal.returns-clause-ordered
returns-clause-ordered c = c.texts_order_ends.ensures c.args.bytes.now c.in_ok-read.read.drawing
    (rw c.in_ok-version.ensures.ok c.in_ok-read.ensures.drawing)
