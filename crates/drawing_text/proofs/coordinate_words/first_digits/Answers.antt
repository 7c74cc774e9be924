use Rattle.std.proofs.Common.{◌≡◌, true, ap, subst, ◌∙◌}
use Rattle.drawing_text.proofs.Names.{all_ascii_digits, digits_value}
use Rattle.drawing_text.proofs.CoordinateLemmas.{first_five}
use Rattle.drawing_text.proofs.coordinate_words.first_digits.Goals as goal

pub returns-in-len6-up-clause-digits : goal.returns-in-len6-up-clause-digits
returns-in-len6-up-clause-digits c =
    subst (λ bytes. all_ascii_digits bytes ≡ true)
    (first_five c.args.bytes.now c.five_digits.result.0 c.in-len6-up.len_at_least c.five_digits.ensures.within) c.five_digits.ensures.digits

pub returns-in-len6-up-clause-value : goal.returns-in-len6-up-clause-value
returns-in-len6-up-clause-value c =
    c.five_digits.ensures.value ∙ ap (digits_value 10)
    (first_five c.args.bytes.now c.five_digits.result.0 c.in-len6-up.len_at_least c.five_digits.ensures.within)
