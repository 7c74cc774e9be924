use Rattle.std.proofs.Common.{◌≡◌, ◌++◌, length, sym, rules}
use Rattle.record_formats.proofs.HeaderLemmas.{takes_behind}
use Rattle.record_formats.proofs.record_decoder.RecordDecoder.take_header.Goals as goal

pub returns : goal.returns
returns g c =
    let front = c.split_at.result.0.now in
    let whole : c.args.bytes.now ≡ front ++ c.split_at.result.1.now = search rules in
    let of_header : length front ≡ c.header_length-length.result = search rules in
    takes_behind _ _ _ _ c.args.at _ _ _ c.args.bytes.now front _ whole of_header (sym c.header_length-length.ensures.value)
    (c.enter.ensures.on c.args.at) c.in_ok-size.ensures
