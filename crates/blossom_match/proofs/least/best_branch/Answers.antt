use Rattle.std.proofs.Common.{[], get_or, arith, List, ℕ, ap, subst}
use Rattle.blossom_match.proofs.Names.{count, IsBestCandidate, branch_in, branches_in, mapped_item, mapped_low, no_branch}
use Rattle.blossom_match.specs.declared.least.Kind.TheVariants as kind
use Rattle.blossom_match.proofs.OuterSlackLemmas.{outer_within}
use Rattle.blossom_match.proofs.CandidateLemmas.{aims_outer}
use Rattle.blossom_match.proofs.least.best_branch.Goals as goal

pub best_target-least-requires-clause-within : goal.best_target-least-requires-clause-within
best_target-least-requires-clause-within c = λ b hb.
    c.requires.within b (omega (
      arith,
      hb,
      ap (λ (ks : List ℕ). count b ks) c.members.ensures,
      outer_within b [] (branches_in c.args.sets.now c.args.tree.now) c.loop-b.b-index
          (branch_in c.args.sets.now (get_or c.args.tree.now c.loop-b.b-index no_branch))
          (mapped_low (branch_in c.args.sets.now) c.args.tree.now c.loop-b.b-index c.loop-b-test.true)
          (mapped_item (branch_in c.args.sets.now) c.args.tree.now c.loop-b.b-index no_branch),
    ))

pub loop-b-preserved : goal.loop-b-preserved
loop-b-preserved c =
    aims_outer c.args.heights.now c.args.reach.now kind.Shrink [] (branches_in c.args.sets.now c.args.tree.now) c.loop-b.b-index
    (branch_in c.args.sets.now (get_or c.args.tree.now c.loop-b.b-index no_branch)) c.args.best c.loop-b.least c.best_target-least.result
    (mapped_low (branch_in c.args.sets.now) c.args.tree.now c.loop-b.b-index c.loop-b-test.true)
    (mapped_item (branch_in c.args.sets.now) c.args.tree.now c.loop-b.b-index no_branch) c.loop-b.invariant
    (subst (λ (ks : List ℕ). IsBestCandidate c.args.heights.now c.args.reach.now kind.Shrink ks c.loop-b.least
    c.best_target-least.result)
    c.members.ensures c.best_target-least.ensures)
