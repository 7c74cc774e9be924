use Rattle.std.proofs.Common.{List, ap, ◌∙◌}
use Rattle.line_meetings.specs.declared.part_order.OrderedIndex.{OrderedIndex}
use Rattle.line_meetings.specs.IndexedParts.{indexed_at}
use Rattle.line_meetings.proofs.IndexLemmas.{indexed_in_order}
use Rattle.line_meetings.proofs.Names.{flat_map}
use Rattle.line_meetings.proofs.part_order.in_near_order.Goals as goal

pub returns : goal.returns
returns c =
    indexed_in_order (λ (o : OrderedIndex). o.index) c.args.parts.now c.in_ok-order.order.items c.sort_unstable_by_key.new.self.items
    c.in_ok-ordered.ordered.items c.in_ok-order.ensures c.sort_unstable_by_key.ensures.permutation
    (c.in_ok-ordered.ensures
    ∙ ap (λ (order : List OrderedIndex). flat_map (λ o. indexed_at c.args.parts.now o.index) order) c.as_slice.ensures.value)
