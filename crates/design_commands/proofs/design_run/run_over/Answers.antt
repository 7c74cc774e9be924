use Rattle.std.proofs.Common.{map, string_bytes}
use Rattle.design_commands.proofs.FormatLemmas.{over_formats}
use Rattle.design_commands.proofs.design_run.run_over.Goals as goal

pub returns : goal.returns
returns g c = over_formats _ _ (map string_bytes c.args.words.now) _ _ _ c.requires c.run.ensures
