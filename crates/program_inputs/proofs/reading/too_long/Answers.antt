use Rattle.program_shell.specs.FileTexts.{too_long_text}
use Rattle.program_inputs.proofs.reading.too_long.Goals as goal

pub returns : goal.returns
returns c = c.refused.ensures (too_long_text c.args.name.now) c.describe_file.ensures
