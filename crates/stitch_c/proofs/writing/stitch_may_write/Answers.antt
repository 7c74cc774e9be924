use Rattle.std.proofs.Common.{map, refl, string_bytes, sym}
use Rattle.all_formats.specs.StitchFormats.{stitch_formats}
use Rattle.format_traits.specs.Endings.{format_of}
use Rattle.stitch_cli.specs.Checks.{complete_check}
use Rattle.stitch_cli.specs.Commands.Order.{checking, hooping, showing}
use Rattle.stitch_cli.specs.Commands.{outputs_of, stitch}
use Rattle.stitch_cli.specs.Hoops.{complete_hoop}
use Rattle.stitch_cli.specs.Shows.{complete_show}
use Rattle.stitch_cli.specs.StitchRuns.{stitch_order}
use Rattle.stitch_c.proofs.WriteLemmas.{made_without_outputs, without_outputs}
use Rattle.stitch_c.proofs.writing.stitch_may_write.Goals as goal

pub returns-in-Check : goal.returns-in-Check
returns-in-Check c = λ writes s before after runs. without_outputs stitch (stitch_order (map string_bytes c.args.words.now)) before after
    (λ order is. made_without_outputs (λ o. checking o) outputs_of (λ o. refl) _ order
    (rw (sym c.in-Some.ensures.value, c.in-Check.is) at is)) runs.ends.others

pub returns-in-Show : goal.returns-in-Show
returns-in-Show c = λ writes s before after runs. without_outputs stitch (stitch_order (map string_bytes c.args.words.now)) before after
    (λ order is. made_without_outputs (λ o. showing o) outputs_of (λ o. refl) _ order
    (rw (sym c.in-Some.ensures.value, c.in-Show.is) at is)) runs.ends.others

pub returns-in-Hoop : goal.returns-in-Hoop
returns-in-Hoop c = λ writes s before after runs. without_outputs stitch (stitch_order (map string_bytes c.args.words.now)) before after
    (λ order is. made_without_outputs (λ o. hooping o) outputs_of (λ o. refl) _ order
    (rw (sym c.in-Some.ensures.value, c.in-Hoop.is) at is)) runs.ends.others
