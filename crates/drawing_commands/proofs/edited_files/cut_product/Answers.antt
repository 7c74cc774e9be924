use Rattle.drawing_commands.proofs.WholeLemmas.{cut_written}
use Rattle.drawing_commands.proofs.edited_files.cut_product.Goals as goal

pub returns : goal.returns
returns c = cut_written _ _ c.args.comments.now c.args.drawing.now _ c.comments_keep_lines.ensures c.spoken_lines_decide.ensures
    c.requires.comments c.in_ok-plain.ensures.again
    (rw (c.in_ok-content.ensures, c.as_slice.ensures, c.in_ok-plain.ensures.value) at c.in_ok-product.ensures)
