use Rattle.stitch_text.proofs.ListStateLemmas.{takes_lines}
use Rattle.stitch_text.proofs.list_decoder.ListDecoderDecoder.take.Goals as goal

pub returns : goal.returns
returns c = takes_lines _ _ _ _ c.args.at c.in_ok-size.size c.take_part.result c.args.bytes.now c.split_at.result.1.now
    c.in_ok-size.ensures c.split_at.ensures.back c.take_part.ensures
