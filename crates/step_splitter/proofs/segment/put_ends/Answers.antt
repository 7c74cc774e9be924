use Rattle.std.proofs.Common.{◌+◌, ◌∷◌, [], map, rules, arith}
use Rattle.std.proofs.lemmas.List.{append_assoc}
use Rattle.step_splitter.proofs.Names.{range_with_len, point_on_segment, map-range_with_len_more}
use Rattle.step_splitter.proofs.segment.put_ends.Goals as goal

pub loop-index-preserved : goal.loop-index-preserved
loop-index-preserved c =
    let more = map-range_with_len_more (λ i. point_on_segment c.args.p c.args.q c.args.count i) 1 c.loop-index.index
    (c.loop-index.index + 1) (omega arith) in
    rw (
      more,
      ← append_assoc c.args.points.now (map (λ i. point_on_segment c.args.p c.args.q c.args.count i)
          (range_with_len 1 c.loop-index.index)) (point_on_segment c.args.p c.args.q c.args.count (c.loop-index.index + 1) ∷ []),
    )
    (search rules)
