use Rattle.stitch_cli.proofs.RewriteLemmas.{settles_unchanged, settles_written}
use Rattle.stitch_cli.proofs.rewriting.rewrite_loaded.Goals as goal

pub returns-in-Ok : goal.returns-in-Ok
returns-in-Ok g c = λ source. settles_written _ _ _ _ _ c.limit_of.ensures.value c.in-Ok.ensures c.encoded_product.ensures

pub returns-in-Err : goal.returns-in-Err
returns-in-Err g c = λ source. settles_unchanged _ _ _ _ _ c.limit_of.ensures.value c.in-Err.ensures c.change_failure.ensures
