use Rattle.std.proofs.Common.{arith}
use Rattle.pec_codec.proofs.Names.{nat_tests}
use Rattle.pec_codec.proofs.HeaderLemmas.{labels_fit}
use Rattle.pec_codec.proofs.header.put_labels.Goals as goal

pub returns-clause-short : goal.returns-clause-short
returns-clause-short c = grind (arith, nat_tests, labels_fit, c.label.ensures.value, c.label.ensures.limits.short, c.requires)
