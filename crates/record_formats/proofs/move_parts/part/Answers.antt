use Rattle.std.proofs.Common.{◌≡◌, ◌≤◌, ◌*ℤ◌, pos, unsigned_abs, subst, sym, ap, ◌∙◌, arith, rules}
use Rattle.record_formats.proofs.Names.{to_z-of_z, w32, int_div_euclid}
use mir.Val.{to_z, of_z, SFits}
use Rattle.format_traits.specs.declared.move_hops.TheConstants.{MAX_MOVE}
use Rattle.record_formats.proofs.rereading.Hops.{axis_small}
use Rattle.record_formats.proofs.move_parts.part.Goals as goal

pub returns-clause-small : goal.returns-clause-small
returns-clause-small c =
    let fits : SFits w32 c.floor_part.result = search rules in
    let is : to_z w32 (of_z w32 c.floor_part.result) ≡ int_div_euclid (pos c.args.done *ℤ c.args.step) (pos c.args.count) =
    to_z-of_z w32 c.floor_part.result fits ∙ c.floor_part.ensures
    ∙ ap (λ z. int_div_euclid (pos c.args.done *ℤ z) (pos c.args.count)) (to_z-of_z w32 c.args.step c.ranges.step) in
    let small = axis_small c.args.step c.args.count c.args.done c.requires.some c.requires.there in
    subst (λ z. unsigned_abs z ≤ MAX_MOVE) (sym is) (omega (arith, small, c.requires.size))
