use Rattle.std.proofs.Common.{◌≡◌, ◌≤◌, ◌+◌, ◌-ℤ◌, ◌*ℤ◌, pos, unsigned_abs, subst, sym, ap, ◌∙◌, arith, rules}
use Rattle.record_formats.proofs.Names.{to_z-of_z, w32, int_div_euclid, mul_comm}
use mir.Val.{to_z, of_z, SFits}
use Rattle.record_formats.proofs.rereading.Hops.{axis_step}
use Rattle.record_formats.proofs.move_parts.part_step.Goals as goal

pub returns-clause-near : goal.returns-clause-near
returns-clause-near c =
    let fits : SFits w32 c.less.result = search rules in
    let fits_end : SFits w32 c.part-end.result = search rules in
    let fits_start : SFits w32 c.part-start.result = search rules in
    let step_is = to_z-of_z w32 c.args.step c.ranges.step in
    let end : to_z w32 (of_z w32 c.part-end.result) ≡ int_div_euclid (pos (c.args.done + 1) *ℤ c.args.step) (pos c.args.count) =
    to_z-of_z w32 c.part-end.result fits_end ∙ c.part-end.ensures.value
    ∙ ap (λ z. int_div_euclid (pos (c.args.done + 1) *ℤ z) (pos c.args.count)) step_is in
    let start : to_z w32 (of_z w32 c.part-start.result) ≡ int_div_euclid (pos c.args.done *ℤ c.args.step) (pos c.args.count) =
    to_z-of_z w32 c.part-start.result fits_start ∙ c.part-start.ensures.value
    ∙ ap (λ z. int_div_euclid (pos c.args.done *ℤ z) (pos c.args.count)) step_is in
    let is : to_z w32 (of_z w32 c.less.result) ≡ int_div_euclid (pos (c.args.done + 1) *ℤ c.args.step) (pos c.args.count)
    -ℤ int_div_euclid (pos c.args.done *ℤ c.args.step) (pos c.args.count) =
    to_z-of_z w32 c.less.result fits ∙ c.less.ensures
    ∙ ap (λ z. z -ℤ to_z w32 (of_z w32 c.part-start.result)) end
    ∙ ap (λ z. int_div_euclid (pos (c.args.done + 1) *ℤ c.args.step) (pos c.args.count) -ℤ z) start in
    λ limit near. subst (λ z. unsigned_abs z ≤ limit) (sym is)
    (axis_step c.args.step c.args.count c.args.done limit (omega arith)
    (subst (λ most. unsigned_abs c.args.step ≤ most) (mul_comm limit c.args.count) near))
