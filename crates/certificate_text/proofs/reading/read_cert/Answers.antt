use Rattle.certificate_text.proofs.UniqueTexts.{one_text, said_spelled}
use Rattle.certificate_text.proofs.TextLengths.{are_few}
use Rattle.certificate_text.proofs.reading.read_cert.Goals as goal

pub returns-clause-text : goal.returns-clause-text
returns-clause-text c = one_text c.args.bytes.now c.in_ok-cert.cert.pieces c.in_ok-cert.ensures

pub returns-clause-canonical : goal.returns-clause-canonical
returns-clause-canonical c = (said_spelled c.args.bytes.now c.in_ok-cert.cert.pieces c.in_ok-cert.ensures).0

pub returns-clause-few : goal.returns-clause-few
returns-clause-few c =
    are_few c.in_ok-cert.cert.pieces c.args.bytes.now (one_text c.args.bytes.now c.in_ok-cert.cert.pieces c.in_ok-cert.ensures) c.requires
