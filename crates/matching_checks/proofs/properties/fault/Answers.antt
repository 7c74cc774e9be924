use Rattle.std.proofs.Common.{rules, refl, arith}
use Rattle.std.proofs.lemmas.Bool.{false≢true}
use Rattle.matching_checks.proofs.EndLemmas.{cost_fits}
use Rattle.matching_checks.proofs.properties.fault.Goals as goal

pub returns-then-not-all_laminar : goal.returns-then-not-all_laminar
returns-then-not-all_laminar c =
    (λ empty. cc, λ is. absurd (false≢true (c.if-not-all_laminar.ensures.1 (rw c.as_slice-3.ensures is.laminar))))

pub returns : goal.returns
returns c =
    let each = rw (c.as_slice.ensures, c.places.ensures.value) at (c.if-not-pairs_each.ensures.0 refl) in
    let fits = cost_fits c.args.t.now c.args.m.now.pairs c.places.ensures.table each in
    let width = rw c.as_slice-5.ensures at c.width.ensures in (
      λ empty. record {
        paired = each;
        odd = search rules;
        laminar = rw c.as_slice-3.ensures at (c.if-not-all_laminar.ensures.0 refl);
        loads = rw c.as_slice-4.ensures at (c.if-not-keeps_loads.ensures.0 refl);
        paid = omega (arith, fits, c.cost.ensures each, width, c.saturating_mul.ensures, c.if-width-saturating_mul.false);
      },
      λ is. refl,
    )
