use Rattle.program_shell.proofs.CallerLemmas.{takes_next}
use Rattle.picture_commands.specs.Proofs.{proof_drawing}
use Rattle.picture_commands.specs.Words.{proof_order}
use Rattle.picture_commands.proofs.proving.prove.Goals as goal

pub returns : goal.returns
returns g c = takes_next _ _ (proof_drawing (proof_order c.args.names)) _ _ _ _ _ c.in_ok-drawing.ensures c.prove_drawing.ensures
