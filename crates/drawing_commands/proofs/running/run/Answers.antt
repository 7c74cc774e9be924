use Rattle.std.proofs.Common.{◌∙◌, None, ap}
use Rattle.program_texts.specs.CompanionUsage.{usage_with}
use Rattle.drawing_commands.proofs.Names.{can_finish, stitch_drawing_after}
use Rattle.drawing_commands.proofs.CommandLemmas.{drawing_ends}
use Rattle.drawing_commands.specs.Usage.{drawing_program_name, drawing_usage_text}
use Rattle.drawing_commands.proofs.running.run.Goals as goal

pub finish-requires : goal.finish-requires
finish-requires g c = can_finish (stitch_drawing_after None) _ _ _ _ (c.make_product-made.ensures None)

pub returns : goal.returns
returns g c = drawing_ends _ _ _ _ _ _ _ _ _ c.make_product-made.ensures
    (rw (c.as_slice.ensures.value ∙ c.usage_text-usage.ensures
    ∙ ap (usage_with drawing_program_name drawing_usage_text) c.mistake_in.ensures) at c.finish.ensures)
