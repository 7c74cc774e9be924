use Rattle.std.proofs.Common.{map, refl, string_bytes, sym}
use Rattle.drawing_commands.specs.Commands.{drawing_mistake, drawing_order_of, drawing_outputs_of, stitch_drawing_after}
use Rattle.stitch_c.proofs.WriteLemmas.{same_without_outputs, without_outputs}
use Rattle.stitch_c.proofs.writing.drawing_may_write.Goals as goal

pub returns-in-Look : goal.returns-in-Look
returns-in-Look c = λ writes s before after runs. let words = map string_bytes c.args.words.now in
    without_outputs (stitch_drawing_after (drawing_mistake words)) (drawing_order_of words) before after
    (λ order is. same_without_outputs _ order drawing_outputs_of refl (rw (c.in-Ok.ensures.ok, c.in-Look.is) at is)) runs.others
