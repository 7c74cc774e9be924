use Rattle.stitch_cli.proofs.SewingLemmas.{penetrations_few, pieces_few}
use Rattle.stitch_cli.proofs.SampleLemmas.{sample_makes}
use Rattle.stitch_cli.proofs.sampling.reported.Goals as goal

pub summary_of-requires : goal.summary_of-requires
summary_of-requires c = rw (c.as_slice-2.ensures, c.as_slice-3.ensures) (record {
  blocks = c.in_ok-pieces.ensures.blocks;
  most = pieces_few _ _ _ _ _ c.as_slice.ensures c.in_ok-routed.ensures;
  few = penetrations_few _ _ _ _ c.in_ok-pieces.ensures.cut (rw c.as_slice.ensures at c.in_ok-routed.ensures);
})

pub returns : goal.returns
returns c = sample_makes _ _ _ _ _ _ _ _ c.in_ok-pieces.ensures.cut (rw c.as_slice.ensures at c.in_ok-routed.ensures)
    (rw (c.as_slice-2.ensures, c.as_slice-3.ensures, c.line_count.ensures.value) at c.in_ok-summary.ensures)
    c.in_ok-content.ensures.value c.in_ok-report.ensures c.in_ok-product.ensures
