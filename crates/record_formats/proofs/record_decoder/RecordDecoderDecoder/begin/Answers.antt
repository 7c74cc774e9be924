use Rattle.std.proofs.Common.{sym, ◌∙◌}
use Rattle.record_formats.proofs.HeaderLemmas.{same_behind}
use Rattle.record_formats.proofs.record_decoder.RecordDecoderDecoder.begin.Goals as goal

pub returns-then-header_length-eq0-clause-same : goal.returns-then-header_length-eq0-clause-same
returns-then-header_length-eq0-clause-same g c =
    same_behind _ _ _ (sym c.header_length.ensures.value ∙ c.if-header_length-eq0.true) c.enter.ensures.on
