use Rattle.stitch_cli.proofs.Names.{walks_of}
use Rattle.stitch_cli.proofs.SewnDesigns.{sewn_sews, sews_again}
use Rattle.stitch_cli.proofs.sewing.encoded.Goals as goal

pub returns-in-Ok : goal.returns-in-Ok
returns-in-Ok g c = record {
  written = rw c.requires.sewn at c.in-Ok.ensures.value;
  read = sews_again c.args.drawing.now (walks_of c.args.routed.now.cert.pieces) c.args.routed.now.design _
      (sewn_sews c.runs_are_sewn.ensures c.args.drawing.now (walks_of c.args.routed.now.cert.pieces) c.args.routed.now.design
      c.args.drawing.now.step c.requires.sewn c.requires.writable) c.in-Ok.ensures.again;
  within = c.in-Ok.ensures.within;
}
