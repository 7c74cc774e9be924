use Rattle.std.proofs.Common.{get_or, arith}
use Rattle.blossom_match.proofs.Names.{base_in, mapped_item, mapped_low, no_branch, branch_in, branches_in, set_in}
use Rattle.blossom_match.proofs.OuterSlackLemmas.{outer_within}
use Rattle.blossom_match.proofs.CandidateLemmas.{below_next, below_root, outer_apart, root_apart}
use Rattle.blossom_match.proofs.least.nearest.Goals as goal

pub vertex_with_slack-requires-clause-within : goal.vertex_with_slack-requires-clause-within
vertex_with_slack-requires-clause-within c = λ a ha.
    c.requires.can.within a (omega (arith, ha, base_in))

pub returns-in-Some-clause-here : goal.returns-in-Some-clause-here
returns-in-Some-clause-here c =
    omega (arith, c.in-Some.ensures.1.here, base_in)

pub returns-in-Some-clause-apart : goal.returns-in-Some-clause-apart
returns-in-Some-clause-apart c =
    root_apart c.in-Some.a c.args.to (set_in c.args.sets.now c.args.root) (branches_in c.args.sets.now c.args.tree.now)
    c.requires.can.once c.in-Some.ensures.1.here c.in-Some.ensures.0

pub loop-b-init : goal.loop-b-init
loop-b-init c =
    below_root c.args.t.now c.args.heights.now (set_in c.args.sets.now c.args.root) (branches_in c.args.sets.now c.args.tree.now)
    c.args.to c.args.left c.requires.reached c.in_default.ensures

pub vertex_with_slack-requires-in-loop-b-clause-within : goal.vertex_with_slack-requires-in-loop-b-clause-within
vertex_with_slack-requires-in-loop-b-clause-within c = λ a ha.
    c.requires.can.within a (omega (
      arith,
      ha,
      outer_within a (set_in c.args.sets.now c.args.root).members (branches_in c.args.sets.now c.args.tree.now) c.loop-b.b-index
          (branch_in c.args.sets.now (get_or c.args.tree.now c.loop-b.b-index no_branch))
          (mapped_low (branch_in c.args.sets.now) c.args.tree.now c.loop-b.b-index c.loop-b-test.true)
          (mapped_item (branch_in c.args.sets.now) c.args.tree.now c.loop-b.b-index no_branch),
    ))

pub returns-in-Some-vertex_with_slack-clause-here : goal.returns-in-Some-vertex_with_slack-clause-here
returns-in-Some-vertex_with_slack-clause-here c = omega (
  arith,
  c.in-Some-vertex_with_slack.ensures.1.here,
  outer_within c.in-Some-vertex_with_slack.a (set_in c.args.sets.now c.args.root).members (branches_in c.args.sets.now c.args.tree.now)
      c.loop-b.b-index (branch_in c.args.sets.now (get_or c.args.tree.now c.loop-b.b-index no_branch))
      (mapped_low (branch_in c.args.sets.now) c.args.tree.now c.loop-b.b-index c.loop-b-test.true)
      (mapped_item (branch_in c.args.sets.now) c.args.tree.now c.loop-b.b-index no_branch),
)

pub returns-in-Some-vertex_with_slack-clause-apart : goal.returns-in-Some-vertex_with_slack-clause-apart
returns-in-Some-vertex_with_slack-clause-apart c =
    outer_apart c.in-Some-vertex_with_slack.a c.args.to (set_in c.args.sets.now c.args.root) (branches_in c.args.sets.now c.args.tree.now)
    c.loop-b.b-index (branch_in c.args.sets.now (get_or c.args.tree.now c.loop-b.b-index no_branch)) c.requires.can.once
    (mapped_low (branch_in c.args.sets.now) c.args.tree.now c.loop-b.b-index c.loop-b-test.true)
    (mapped_item (branch_in c.args.sets.now) c.args.tree.now c.loop-b.b-index no_branch) c.in-Some-vertex_with_slack.ensures.1.here
    c.in-Some-vertex_with_slack.ensures.0

pub loop-b-preserved : goal.loop-b-preserved
loop-b-preserved c =
    below_next c.args.t.now c.args.heights.now (branches_in c.args.sets.now c.args.tree.now) c.loop-b.b-index
    (branch_in c.args.sets.now (get_or c.args.tree.now c.loop-b.b-index no_branch)) c.args.to c.args.left
    (mapped_low (branch_in c.args.sets.now) c.args.tree.now c.loop-b.b-index c.loop-b-test.true)
    (mapped_item (branch_in c.args.sets.now) c.args.tree.now c.loop-b.b-index no_branch) c.loop-b.invariant
    c.in_default-vertex_with_slack.ensures
