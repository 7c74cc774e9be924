use Rattle.cut_certificate.proofs.Names.{lift_input}
use Rattle.cut_certificate.proofs.ProgressLemmas.{all_odd, next_size}
use Rattle.cut_certificate.proofs.moat_distances.add_sized.Goals as goal

pub returns : goal.returns
returns c =
    next_size (lift_input c.args.rows.now c.args.size c.args.moats.now) c.args.members c.loop-index.index c.loop-index.progress.stands.items
    c.loop-index.progress.reaches.items
    c.requires.odd (all_odd c.args.rows.now c.args.size c.args.moats.now c.requires.can) c.loop-index-test.false c.loop-index.invariant
