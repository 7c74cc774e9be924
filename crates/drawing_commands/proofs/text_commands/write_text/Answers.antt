use Rattle.drawing_commands.specs.TextCommands.{kept_plan}
use Rattle.drawing_commands.proofs.Names.{settles_taken, plan_of_text}
use Rattle.drawing_commands.proofs.text_commands.write_text.Goals as goal

pub returns : goal.returns
returns g c = settles_taken _ _ (plan_of_text c.args.names.input.now (kept_plan c.args.command c.args.names.input.now
    c.args.names.output.now)) _ _ _ _ c.in_ok-text.ensures.takes c.write_if_kept.ensures
