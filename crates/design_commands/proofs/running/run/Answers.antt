use Rattle.std.proofs.Common.{◌∙◌, None, ap}
use Rattle.design_commands.specs.Commands.{stitch_design_after}
use Rattle.program_texts.specs.CompanionUsage.{usage_with}
use Rattle.design_commands.specs.Usage.{design_program_name, design_usage_text}
use Rattle.program_shell.proofs.CallerLemmas.{can_finish}
use Rattle.design_commands.proofs.CommandLemmas.{design_ends}
use Rattle.design_commands.proofs.running.run.Goals as goal

pub finish-requires : goal.finish-requires
finish-requires g c = can_finish (stitch_design_after None) _ _ _ _ (c.make_product-made.ensures None)

pub returns : goal.returns
returns g c = design_ends _ _ _ _ _ _ _ _ _ c.make_product-made.ensures
    (rw (c.as_slice.ensures.value ∙ c.usage_text-usage.ensures
    ∙ ap (usage_with design_program_name design_usage_text) c.mistake_in.ensures) at c.finish.ensures)
