use Rattle.std.proofs.Common.{◌∙◌}
use Rattle.format_traits.proofs.LabelLemmas.{whole_field}
use Rattle.format_traits.proofs.label_fields.read_label.Goals as goal

pub set_label-requires : goal.set_label-requires
set_label-requires c = whole_field c.args.field.now c.as_slice.result.now c.trimmed.result.now c.loop-byte.byte-index
    c.requires c.loop-byte-test.false (c.as_slice.ensures.value ∙ c.loop-byte.invariant) c.trimmed.ensures
