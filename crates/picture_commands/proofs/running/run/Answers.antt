use Rattle.std.proofs.Common.{◌∙◌, None, ap}
use Rattle.program_texts.specs.CompanionUsage.{usage_with}
use Rattle.picture_commands.specs.Orders.{picture_program_after}
use Rattle.picture_commands.specs.Usage.{picture_program_name, picture_usage}
use Rattle.program_shell.proofs.CallerLemmas.{can_finish}
use Rattle.picture_commands.proofs.PictureLemmas.{picture_ends}
use Rattle.picture_commands.proofs.running.run.Goals as goal

pub finish-requires : goal.finish-requires
finish-requires g c = can_finish (picture_program_after None) _ _ _ _ (c.make-made.ensures None)

pub returns : goal.returns
returns g c = picture_ends c.pieces_are_unique.ensures _ _ _ _ _ _ _ _ _ c.make-made.ensures
    (rw (c.as_slice.ensures.value ∙ c.usage_text-usage.ensures
    ∙ ap (usage_with picture_program_name picture_usage) c.mistake_in.ensures) at c.finish.ensures)
