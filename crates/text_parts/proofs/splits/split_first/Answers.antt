use Rattle.std.proofs.Common.{ap, arith, drop, sym, ◌∙◌}
use Rattle.std.proofs.lemmas.Bool.Decides.{nat_tests}
use Rattle.text_parts.proofs.PartLemmas.{drop_one, first_part, no_split, one_part, one_split}
use Rattle.text_parts.proofs.splits.split_first.Goals as goal

pub returns-then-is_empty-clause-value : goal.returns-then-is_empty-clause-value
returns-then-is_empty-clause-value c =
    sym (no_split _ _ _ _ c.first_index.ensures.value c.split_at.ensures.back (grind (arith, nat_tests)))

pub returns-clause-value : goal.returns-clause-value
returns-clause-value c =
    sym (one_split _ _ _ _ _ _ c.first_index.ensures.value c.split_at.ensures.front c.split_at.ensures.back
    (grind (arith, nat_tests)) c.split_at-2.ensures.back)

pub returns-then-is_empty-clause-none : goal.returns-then-is_empty-clause-none
returns-then-is_empty-clause-none c =
    one_part _ _ _ _ c.first_index.ensures.value c.first_index.ensures.within c.split_at.ensures.back (grind (arith, nat_tests))

pub returns-clause-some : goal.returns-clause-some
returns-clause-some c =
    first_part _ _ _ _ _ _ c.first_index.ensures.value c.split_at.ensures.front c.split_at.ensures.back
    (grind (arith, nat_tests)) c.split_at-2.ensures.back

pub returns-clause-rest : goal.returns-clause-rest
returns-clause-rest c = rw c.split_at.ensures.front_len
    (c.split_at-2.ensures.back ∙ ap (drop 1) c.split_at.ensures.back ∙ drop_one c.first_index.result c.args.bytes.now)
