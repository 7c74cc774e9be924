use Rattle.std.proofs.Common.{refl}
use Rattle.all_formats.proofs.CallerLemmas.{meaning_at, same_five}
use Rattle.design_commands.proofs.design_run.run_design.OwnLists.{own-1}
use Rattle.design_commands.proofs.design_run.run_design.Goals as goal

pub run_over-requires : goal.run_over-requires
run_over-requires g c = same_five
    (meaning_at (λ v o. (own-1.entry v).1.meaning o) _ _ _ c.into_dyn_box.ensures.0 (λ o. refl) c.into_dyn_box.result.value)
    (meaning_at (λ v o. (own-1.entry v).1.meaning o) _ _ _ c.into_dyn_box-2.ensures.0 (λ o. refl) c.into_dyn_box-2.result.value)
    (meaning_at (λ v o. (own-1.entry v).1.meaning o) _ _ _ c.into_dyn_box-3.ensures.0 (λ o. refl) c.into_dyn_box-3.result.value)
    (meaning_at (λ v o. (own-1.entry v).1.meaning o) _ _ _ c.into_dyn_box-4.ensures.0 (λ o. refl) c.into_dyn_box-4.result.value)
    (meaning_at (λ v o. (own-1.entry v).1.meaning o) _ _ _ c.into_dyn_box-5.ensures.0 (λ o. refl) c.into_dyn_box-5.result.value)
