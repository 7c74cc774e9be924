use Rattle.std.proofs.Common.{ℕ, List, filter, ap, ◌∙◌}
use Rattle.std.proofs.Math.Path.{ap₂}
use Rattle.std.proofs.lemmas.List.Sorted.{IsNonDecreasingBy-from_sort}
use Rattle.line_meetings.specs.IndexedParts.{parts_at}
use Rattle.line_meetings.proofs.IndexLemmas.{matches_in_order}
use Rattle.line_meetings.proofs.Names.{IndexedPart, answers_query, flat_map, matching_indexes}
use Rattle.line_meetings.proofs.part_tree.PartTree.matches.Goals as goal

pub returns : goal.returns
returns c =
    let parts = c.self.inside.parts.items in
    let sorted = c.sort_unstable.new.self.items in
    c.in_ok-found.ensures ∙ ap₂ parts_at c.as_slice-2.ensures.value c.as_slice-3.ensures.value
    ∙ matches_in_order c.args.query parts (flat_map (λ a. a) c.self.inside.areas.items) c.in_ok-indexes.indexes.items sorted
    c.self.invariant
    (c.in_ok-indexes.ensures
    ∙ ap (λ (areas : List (List IndexedPart)). matching_indexes c.args.query (flat_map (λ a. a) areas)) c.as_slice.ensures.value)
    c.sort_unstable.ensures.permutation (IsNonDecreasingBy-from_sort (λ (n : ℕ). n) sorted c.sort_unstable.ensures.sorted)
    ∙ ap (filter (answers_query c.args.query)) c.self.view_is
