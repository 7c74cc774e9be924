use Rattle.route_tests.proofs.TreeFacts.{keeps_tree}
use Rattle.route_tests.proofs.tests.lifts.tree.Goals as goal

pub invariant_of-result : goal.invariant_of-result
invariant_of-result c =
    rw (
      c.from_vec.ensures,
      c.in_ok-vec.ensures.items,
      c.in_ok-corners.ensures,
      c.from_vec-2.ensures,
      c.in_ok-from_array.ensures.items,
      c.edge.ensures,
      c.edge-2.ensures,
      c.edge-3.ensures,
      c.edge-4.ensures,
      c.edge-5.ensures,
      c.edge-6.ensures,
      c.edge-7.ensures,
      c.from_vec-3.ensures,
      c.in_ok-vec-2.ensures.items,
    )
    record { kept = keeps_tree }
