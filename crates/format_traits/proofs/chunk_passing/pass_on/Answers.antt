use Rattle.std.proofs.Common.{◌≡◌, ◌++◌, ◌∙◌, ap, drop, arith}
use Rattle.format_traits.proofs.DecoderStateLemmas.{passes_on, passes_sum}
use Rattle.format_traits.proofs.chunk_passing.pass_on.Goals as goal

pub loop-size-preserved : goal.loop-size-preserved
loop-size-preserved g c =
    let kept = c.loop-size.invariant in
    let takes = c.in_ok-size.ensures.takes in
    let rest = c.loop-size.rest.now in
    let same : c.fill-rest.new.bytes.items ++ c.fill-rest.result.now ≡ drop c.in_ok-size.size c.loop-size.pending.items ++ rest =
    c.fill-rest.ensures.all ∙ ap (λ left. left ++ rest) c.in_ok-size.ensures.left in
    let up = kept.up in
    record {
      sum = passes_sum c.args.start c.loop-size.at _ c.args.pending.now.items c.args.chunk.now c.loop-size.pending.items rest
          c.fill-rest.new.bytes.items c.fill-rest.result.now kept.sum takes.there same;
      up = omega (arith, up);
      on = passes_on c.args.start c.loop-size.at _ _ c.loop-size.pending.items rest
          c.fill-rest.new.bytes.items c.fill-rest.result.now kept.on takes same;
    }
