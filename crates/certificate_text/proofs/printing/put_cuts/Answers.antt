use Rattle.std.proofs.Common.{◌<◌, ◌^◌}
use Rattle.certificate_text.proofs.Names.{Cut, cut_line_text}
use Rattle.certificate_text.proofs.ItemPuts.{all_kept, put_more}
use Rattle.certificate_text.proofs.printing.put_cuts.Goals as goal

pub loop-cut-preserved : goal.loop-cut-preserved
loop-cut-preserved c =
    put_more cut_line_text (λ (cut : Cut). cut.weight < 2 ^ 32) c.args.cuts.now c.loop-cut.cut-index c.cut-item.result
    c.loop-cut.text _ _ c.loop-cut.invariant c.loop-cut-test.true c.cut-item.is c.in_ok-put_cut.ensures.value
    c.in_ok-put_cut.ensures.small

pub returns-clause-small : goal.returns-clause-small
returns-clause-small c =
    all_kept cut_line_text (λ (cut : Cut). cut.weight < 2 ^ 32) c.args.cuts.now c.loop-cut.cut-index _ _ c.loop-cut.invariant
    c.loop-cut-test.false
