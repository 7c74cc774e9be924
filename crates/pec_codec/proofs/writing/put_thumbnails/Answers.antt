use Rattle.pec_codec.proofs.WritingLemmas.{thumbnail_more}
use Rattle.pec_codec.proofs.writing.put_thumbnails.Goals as goal

pub loop-preserved : goal.loop-preserved
loop-preserved c = thumbnail_more c.args.out.now c.loop.out c.append.new.self c.loop.counter c.loop.invariant
    c.in_ok-append.ensures.ok
