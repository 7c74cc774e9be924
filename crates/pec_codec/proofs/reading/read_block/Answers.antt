use Rattle.std.proofs.Common.{◌≡◌, drop, subst, rules}
use Rattle.pec_codec.proofs.Names.{DecodesTo}
use Rattle.pec_codec.proofs.ReadingLemmas.{reads_there}
use Rattle.pec_codec.proofs.reading.read_block.Goals as goal

pub returns : goal.returns
returns c =
    let block : c.split_at.result.1.now ≡ drop c.args.at c.args.bytes.now = search rules in
    subst (λ answer. DecodesTo answer c.decode_whole.result) (reads_there c.args.at c.args.bytes.now _ block c.if-bytes-at.false)
    c.decode_whole.ensures
