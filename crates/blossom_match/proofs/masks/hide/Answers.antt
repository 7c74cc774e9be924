use Rattle.std.proofs.Common.{arith, ap, List, ℕ, subst}
use Rattle.blossom_match.proofs.Names.{nat_tests, count, branch_members, SetsCells, branch_in, FAR, count-append}
use Rattle.blossom_match.proofs.MaskLemmas.{puts_join}
use Rattle.blossom_match.proofs.masks.hide.Goals as goal

pub put-requires : goal.put-requires
put-requires c = λ x here.
    let b = branch_in c.args.sets.now c.args.b in
    c.requires x (grind (arith, nat_tests, here, count-append x b.inner.members b.outer.members))

pub put-requires-2 : goal.put-requires-2
put-requires-2 c = λ x here.
    let b = branch_in c.args.sets.now c.args.b in
    omega (
      arith,
      c.put.auto.cells,
      c.requires x (omega (
        arith,
        here,
        ap (λ (ks : List ℕ). count x ks) c.members-2.ensures,
        count-append x b.inner.members b.outer.members,
      )),
    )

pub returns : goal.returns
returns c =
    let b = branch_in c.args.sets.now c.args.b in
    puts_join FAR b.inner.members b.outer.members (branch_members b) c.args.mask.now c.put.new.cells c.put-2.new.cells
    (λ x. count-append x b.inner.members b.outer.members)
    (subst (λ (ks : List ℕ). SetsCells FAR ks c.args.mask.now c.put.new.cells) c.members.ensures c.put.ensures)
    (subst (λ (ks : List ℕ). SetsCells FAR ks c.put.new.cells c.put-2.new.cells) c.members-2.ensures c.put-2.ensures)
