use Rattle.std.proofs.Common.{ap, sym, option_map}
use Rattle.certificate_text.specs.declared.lines.CertLine.TheVariants as line
use Rattle.certificate_text.proofs.WordsLemmas.{more_than_one}
use Rattle.certificate_text.proofs.lines.piece_line.Goals as goal

pub returns-in-Some : goal.returns-in-Some
returns-in-Some c = ap (λ number. option_map line.Piece number)
    (sym (more_than_one c.args.words.now c.in-Some.field-0.0.now c.in-Some.field-0.1.now c.in-Some.ensures.some))
