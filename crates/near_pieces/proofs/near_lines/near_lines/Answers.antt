use Rattle.std.proofs.Common.{arith}
use Rattle.near_pieces.proofs.NearLemmas.{goes_on_end, goes_on_next}
use Rattle.near_pieces.proofs.near_lines.near_lines.Goals as goal

pub loop-rest-preserved : goal.loop-rest-preserved
loop-rest-preserved c = record {
  on = goes_on_next c.args.lines.now c.args.pieces.now c.loop-rest.rest.now c.first_run.result.0.now c.first_run.result.1.now
      c.loop-rest.near c.put_run.new.near c.loop-rest.invariant.on c.first_run.ensures.runs c.in_ok-put_run.ensures;
  few = omega (arith, c.first_run.ensures.shorter, c.loop-rest.invariant.few);
}

pub returns : goal.returns
returns c = goes_on_end c.args.lines.now c.args.pieces.now c.loop-rest.rest.now c.loop-rest.near c.is_empty.result
    c.is_empty.ensures c.loop-rest-test.false c.loop-rest.invariant.on
