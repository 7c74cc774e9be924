use Rattle.std.proofs.Common.{ap, sym, ◌∙◌, option_map}
use Rattle.certificate_text.specs.declared.lines.CertLine.TheVariants as line
use Rattle.certificate_text.proofs.WordsLemmas.{walk_of_words}
use Rattle.certificate_text.proofs.lines.walk_line.Goals as goal

pub returns-in-Some : goal.returns-in-Some
returns-in-Some c =
    ap (λ walk. option_map line.Walk walk) (sym c.in-Some.is ∙ (c.in_ok-walk.ensures ∙ sym (walk_of_words c.args.words.now)))
