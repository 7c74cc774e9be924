-- The parsed list from a stage on, where the first line is incomplete.
use Rattle.std.proofs.Common.{◌≡◌, ◌≢◌, ℕ, ◌+◌, ◌<◌, List, [], ◌∷◌, ◌++◌, Option, None, Some, length, length-append, refl, ap, arith}
use Rattle.stitch_text.proofs.Names.{nat_tests, bytes_eq-Decides, ListDraft, ListStage, parsed_label, parsed_list_line, stage_after_long_line, max_waiting_in, parsed_parts, ended_list, refused_list}
use Rattle.format_traits.specs.declared.fault.ReadFault.TheVariants as read
use Rattle.stitch_text.specs.declared.list_stage.ListStage.TheVariants as stage
use Rattle.stitch_text.proofs.LabelLemmas.{label_from, label_is}
use Rattle.stitch_text.proofs.PartLemmas.{onto_part}

long_label : (line : List ℕ) → 32 < length line → parsed_label line ≡ None
long_label line long = by_label_said (parsed_label line) refl where
  by_label_said : (o : Option (List ℕ)) → parsed_label line ≡ o → parsed_label line ≡ None
  by_label_said None is = is
  by_label_said (Some label) is =
      let has = label_is line label is in
      let few = (label_from label has.good).short in
      absurd (omega (arith, length-append label (93 ∷ []), ap length has.is, few, long))

long_line : (line : List ℕ) → 32 < length line → parsed_list_line line ≡ None
long_line line long = grind (arith, nat_tests)

-- a line that is too long to be right, with what may end it
pub goes_beyond : (draft : ListDraft) (stage : ListStage) (at : ℕ) (part : List ℕ) (parts : List (List ℕ))
    → max_waiting_in stage < length part → parts ≢ []
    → parsed_parts draft stage at (onto_part part parts) ≡ parsed_parts draft (stage_after_long_line at stage) (at + length part) parts
goes_beyond draft s at part [] long some = absurd (some refl)
goes_beyond draft s at part (end ∷ []) long some = by_stage s long where
  there : at + length (part ++ end) ≡ at + length part + length end
  there = omega (arith, length-append part end)

  short : refused_list draft.design (read.Short (at + length (part ++ end)))
      ≡ refused_list draft.design (read.Short (at + length part + length end))
  short = ap (λ n. refused_list draft.design (read.Short n)) there

  behind_end : (bytes : List ℕ) → 0 < length bytes
      → ended_list at draft.design ((bytes ++ end) ∷ []) ≡ refused_list draft.design (read.Control at)
  behind_end [] some = absurd (omega (arith, some))
  behind_end (b ∷ bytes) some = refl

  by_stage : (s : ListStage) → max_waiting_in s < length part
      → parsed_parts draft s at ((part ++ end) ∷ []) ≡ parsed_parts draft (stage_after_long_line at s) (at + length part) (end ∷ [])
  by_stage stage.First long = short
  by_stage stage.Label long = short
  by_stage stage.Block long = short
  by_stage stage.Acts long = short
  by_stage (stage.Long f) long = short
  by_stage stage.Ended long = behind_end part long
  by_stage (stage.Refused f) long = refl
goes_beyond draft s at part (end ∷ next ∷ more) long some =
    grind (arith, nat_tests, length-append, bytes_eq-Decides, long_label, long_line)
