use Rattle.certificate_text.specs.ReadCertificates.{cert_of}
use Rattle.program_shell.proofs.CallerLemmas.{settles_taken}
use Rattle.picture_commands.specs.Proofs.{proof_cert}
use Rattle.picture_commands.specs.Words.{proof_order}
use Rattle.picture_commands.proofs.proving.prove_drawing.Goals as goal

pub returns : goal.returns
returns g c = settles_taken _ cert_of (proof_cert (proof_order c.args.names) c.args.drawing.now) _ _ _ _ c.in_ok-pieces.ensures.takes
    c.shown.ensures
