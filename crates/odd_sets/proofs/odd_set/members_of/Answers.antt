use Rattle.std.proofs.Common.{List, ℕ, ◌++◌, ◌+◌, ap, append_assoc, drop, get_or, sym, ◌∙◌}
use Rattle.odd_sets.proofs.Names.{members_in, members_at, part_in, parts_in, PartValue}
use Rattle.odd_sets.proofs.ListLemmas.{drop_here, mapped_item, mapped_low}
use Rattle.odd_sets.proofs.HandleLemmas.{no_part}
use Rattle.odd_sets.proofs.odd_set.members_of.Goals as goal

pub loop-p-preserved : goal.loop-p-preserved
loop-p-preserved c =
    let sets = c.args.sets.now in
    let all = parts_in sets c.args.parts.now in
    let i = c.loop-p.p-index in
    let p = get_or c.args.parts.now i no_part in
    let here = drop_here all i (part_in sets p) (mapped_low (part_in sets) c.args.parts.now i c.loop-p-test.true)
    (mapped_item (part_in sets) c.args.parts.now i no_part) in
    let left = members_in (drop (i + 1) all) in
    ap (λ (xs : List ℕ). xs ++ left) (c.in_ok-extend_from_slice.ensures.items
    ∙ ap (λ (xs : List ℕ). c.loop-p.members.items ++ xs) c.members.ensures)
    ∙ append_assoc c.loop-p.members.items (members_at sets p.handle.key) left
    ∙ ap (λ (ps : List PartValue). c.loop-p.members.items ++ members_in ps) (sym here) ∙ c.loop-p.invariant
