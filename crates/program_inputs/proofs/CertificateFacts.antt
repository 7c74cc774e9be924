-- Worked values of the text about a file that is no certificate.
use Rattle.std.proofs.Common.{◌≡◌, codes, refl}
use Rattle.std.specs.Fmt.{digits}
use Rattle.program_inputs.specs.CertificateFiles.{bad_line_text}

pub known_bad_line : bad_line_text (codes "a.cert") 12 ≡ codes "a.cert: line 12: not a certificate"
unfolding digits
known_bad_line = refl
