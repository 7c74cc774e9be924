use Rattle.route_tests.proofs.LensFacts.{keeps_between}
use Rattle.route_tests.proofs.tests.tours.piece.Goals as goal

pub invariant_of-result : goal.invariant_of-result
invariant_of-result c =
    rw (
      c.from_vec.ensures,
      c.in_ok-vec.ensures.items,
      c.from_vec-2.ensures,
      c.in_ok-from_array.ensures.items,
      c.from_vec-3.ensures,
      c.in_ok-vec-2.ensures.items,
      c.edge.ensures,
      c.edge-2.ensures,
      c.edge-3.ensures,
      c.from_vec-4.ensures,
      c.in_ok-vec-3.ensures.items,
    )
    record { kept = keeps_between c.args.start c.args.end c.requires.start c.requires.end }
