use Rattle.std.proofs.Common.{◌≡◌, ap, ◌∙◌, length, rules}
use Rattle.dst_codec.proofs.Names.{dst_header_of}
use Rattle.dst_codec.proofs.HeaderLemmas.{length-dst_header_of}
use Rattle.dst_codec.proofs.header.new_header.Goals as goal

pub returns-clause-length : goal.returns-clause-length
returns-clause-length c =
    let is : c.put_spaces.new.out ≡ dst_header_of c.args.label.now c.args.numbers.now = search rules in
    ap length is ∙ length-dst_header_of c.args.label.now c.args.numbers.now c.requires.label c.requires.fits
