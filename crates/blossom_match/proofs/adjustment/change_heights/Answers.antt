use Rattle.std.proofs.Common.{arith, ap, ℕ, List, [], ◌*◌}
use Rattle.blossom_match.proofs.Names.{count, branches_in, set_in, outer_sets, base_in, more_by, members-append}
use Rattle.blossom_match.proofs.adjustment.change_heights.Goals as goal

pub raise-requires-clause-within : goal.raise-requires-clause-within
raise-requires-clause-within c = λ x here.
    c.requires.cells x (omega (arith, here, ap (λ (xs : List ℕ). count x xs) c.members.ensures, base_in))

pub raise-requires-clause-fits : goal.raise-requires-clause-fits
raise-requires-clause-fits c = λ x.
    omega (
      arith,
      c.requires.rise x,
      ap (λ (xs : List ℕ). c.args.by * count x xs) c.members.ensures,
      more_by c.args.by _ _ _
          (members-append outer_sets x (set_in c.args.sets.now c.args.root).members [] (branches_in c.args.sets.now c.args.tree.now)),
    )

pub raise_outers-requires-clause-within : goal.raise_outers-requires-clause-within
raise_outers-requires-clause-within c = λ x here.
    omega (
      arith,
      c.requires.cells x (omega (
        arith,
        here,
        members-append outer_sets x (set_in c.args.sets.now c.args.root).members []
            (branches_in c.args.sets.now c.args.tree.now),
      )),
      c.raise.auto.heights,
    )

pub raise_outers-requires-clause-fits : goal.raise_outers-requires-clause-fits
raise_outers-requires-clause-fits c = λ x.
    omega (
      arith,
      c.requires.rise x,
      c.raise.ensures x,
      ap (λ (xs : List ℕ). c.args.by * count x xs) c.members.ensures,
      more_by c.args.by _
          _ _ (members-append outer_sets x (set_in c.args.sets.now c.args.root).members [] (branches_in c.args.sets.now c.args.tree.now)),
    )

pub lower_inners-requires-clause-within : goal.lower_inners-requires-clause-within
lower_inners-requires-clause-within c = λ x here.
    omega (arith, c.requires.cells x (omega (arith, here)), c.raise.auto.heights, c.raise_outers.auto.heights)

pub lower_inners-requires-clause-fits : goal.lower_inners-requires-clause-fits
lower_inners-requires-clause-fits c = λ x. omega (arith, c.requires.fall x, c.raise.ensures x, c.raise_outers.ensures x)

pub returns-clause-moves : goal.returns-clause-moves
returns-clause-moves c = λ x.
    omega (
      arith,
      c.raise.ensures x,
      c.raise_outers.ensures x,
      c.lower_inners.ensures x,
      ap (λ (xs : List ℕ). c.args.by * count x xs) c.members.ensures,
      more_by c.args.by _ _ _ (members-append outer_sets x (set_in c.args.sets.now c.args.root).members []
          (branches_in c.args.sets.now c.args.tree.now)),
    )
