use Rattle.drawing_commands.proofs.WholeLemmas.{whole_written}
use Rattle.drawing_commands.proofs.whole_files.whole_product.Goals as goal

pub returns : goal.returns
returns c = whole_written _ _ c.args.comments.now c.args.drawn.now c.args.joined.now _ c.comments_keep_lines.ensures
    c.spoken_lines_decide.ensures c.requires.comments (rw c.in_ok-plain.ensures.value at c.in_ok-plain.ensures.again)
    (rw c.in_ok-plain.ensures.value at (c.in_ok-plain.ensures.lines c.requires.whole.no_ends))
    (rw (c.in_ok-content.ensures, c.as_slice.ensures, c.in_ok-plain.ensures.value) at c.in_ok-product.ensures)
