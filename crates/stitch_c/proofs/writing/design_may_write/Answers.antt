use Rattle.std.proofs.Common.{map, refl, string_bytes, sym}
use Rattle.all_formats.specs.StitchFormats.{stitch_formats}
use Rattle.design_commands.specs.Commands.{design_mistake, design_order, design_outputs_of, stitch_design_after}
use Rattle.stitch_c.proofs.WriteLemmas.{both_without_outputs, made_without_outputs, without_outputs}
use Rattle.stitch_c.proofs.writing.design_may_write.Goals as goal

pub returns-in-Look : goal.returns-in-Look
returns-in-Look c = λ writes s before after runs. let words = map string_bytes c.args.words.now in
    without_outputs (stitch_design_after (design_mistake stitch_formats words)) (design_order stitch_formats words) before after
    (λ order is. made_without_outputs _ design_outputs_of (λ m. refl) _ order (rw (c.in-Ok.ensures.ok, c.in-Look.is) at is)) runs.others

pub returns-in-Pass : goal.returns-in-Pass
returns-in-Pass c = λ writes s before after runs. let words = map string_bytes c.args.words.now in
    without_outputs (stitch_design_after (design_mistake stitch_formats words)) (design_order stitch_formats words) before after
    (λ order is. made_without_outputs _ design_outputs_of (λ m. refl) _ order (rw (c.in-Ok.ensures.ok, c.in-Pass.is) at is)) runs.others

pub returns-in-Compare : goal.returns-in-Compare
returns-in-Compare c = λ writes s before after runs. let words = map string_bytes c.args.words.now in
    without_outputs (stitch_design_after (design_mistake stitch_formats words)) (design_order stitch_formats words) before after
    (λ order is. both_without_outputs _ design_outputs_of (λ m n. refl) _ _ order (rw (c.in-Ok.ensures.ok, c.in-Compare.is) at is))
    runs.others

pub returns-in-Threads : goal.returns-in-Threads
returns-in-Threads c = λ writes s before after runs. let words = map string_bytes c.args.words.now in
    without_outputs (stitch_design_after (design_mistake stitch_formats words)) (design_order stitch_formats words) before after
    (λ order is. made_without_outputs _ design_outputs_of (λ m. refl) _ order (rw (c.in-Ok.ensures.ok, c.in-Threads.is) at is)) runs.others
