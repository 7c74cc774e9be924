use Rattle.std.proofs.Common.{arith, ap, map, List, [], ◌∷◌, ◌++◌, ℕ, sym, ◌∙◌}
use Rattle.odd_sets.proofs.Names.{range_with_len, vertex_slack, map-range_with_len_more}
use Rattle.odd_sets.proofs.slack_rows.single_row.Goals as goal

pub loop-x-preserved : goal.loop-x-preserved
loop-x-preserved c =
    let f = vertex_slack c.args.t.now c.args.place in
    c.in_ok-push.ensures.items ∙ ap (λ (xs : List ℕ). xs ++ c.cell_for.result ∷ []) c.loop-x.invariant
    ∙ ap (λ (v : ℕ). map f (range_with_len 0 c.loop-x.x) ++ v ∷ []) c.cell_for.ensures
    ∙ sym (map-range_with_len_more f 0 c.loop-x.x c.loop-x.x (omega arith))
