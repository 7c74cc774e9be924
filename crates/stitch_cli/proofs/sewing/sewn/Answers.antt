use Rattle.stitch_cli.proofs.SewingLemmas.{penetrations_few, pieces_few, sewing_makes, sewn_plain}
use Rattle.stitch_cli.proofs.sewing.sewn.Goals as goal

pub encoded-requires-clause-plain : goal.encoded-requires-clause-plain
encoded-requires-clause-plain g c = sewn_plain _ _ _ _ _ c.in_ok-routed.ensures c.requires.limit c.requires.step

pub describe_sewing-requires : goal.describe_sewing-requires
describe_sewing-requires g c = rw (c.as_slice-2.ensures, c.as_slice-3.ensures) (record {
  blocks = c.in_ok-pieces.ensures.blocks;
  most = pieces_few _ _ _ _ _ c.as_slice.ensures c.in_ok-routed.ensures;
  few = penetrations_few _ _ _ _ c.in_ok-pieces.ensures.cut (rw c.as_slice.ensures at c.in_ok-routed.ensures);
})

pub returns : goal.returns
returns g c = sewing_makes _ _ _ _ _ _ _ _ _ c.in_ok-pieces.ensures.cut (rw c.as_slice.ensures at c.in_ok-routed.ensures)
    c.in_ok-design_file.ensures c.in_ok-cert_text.ensures.value c.in_ok-cert_text.ensures.again
    (rw (c.as_slice-2.ensures, c.as_slice-3.ensures) at c.in_ok-report.ensures)
    c.in_ok-product.ensures
