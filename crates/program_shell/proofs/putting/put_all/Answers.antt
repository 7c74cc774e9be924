use Rattle.std.proofs.Common.{ap, map}
use Rattle.program_shell.proofs.Names.{concat, at_drop_more, drop_all}
use Rattle.program_shell.proofs.PutLemmas.{gathers_all, gathers_broke, gathers_on, puts_err}
use Rattle.program_shell.proofs.putting.put_all.Goals as goal

pub returns-in_err-gather : goal.returns-in_err-gather
returns-in_err-gather g c = puts_err _ _ _ _ _ c.from_residual.ensures.1 (gathers_broke _ _ _ _ _ _ _ _ c.loop-part.invariant
    (at_drop_more (λ parts. concat (map (λ part. part.now) parts)) c.args.parts.now c.loop-part.part-index _
    c.loop-part-test.true)
    c.in_err-gather.ensures.err)

pub loop-part-preserved : goal.loop-part-preserved
loop-part-preserved g c = gathers_on _ _ _ _ _ _ _ _ _ _ c.loop-part.invariant
    (at_drop_more (λ parts. concat (map (λ part. part.now) parts)) c.args.parts.now c.loop-part.part-index _ c.loop-part-test.true)
    c.in_ok-gather.ensures.ok.1 c.in_ok-gather.ensures.ok.2

pub returns : goal.returns
returns g c = gathers_all _ _ _ _ _ _ _ _ c.loop-part.invariant
    (ap (λ parts. concat (map (λ part. part.now) parts)) (drop_all c.loop-part.part-index c.args.parts.now c.loop-part-test.false))
    c.as_slice.ensures.value c.put_one.ensures
