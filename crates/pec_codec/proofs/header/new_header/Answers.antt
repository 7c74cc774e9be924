use Rattle.std.proofs.Common.{arith}
use Rattle.pec_codec.proofs.Names.{nat_tests}
use Rattle.pec_codec.proofs.HeaderLemmas.{length-pec_header_of}
use Rattle.pec_codec.proofs.header.new_header.Goals as goal

pub returns-clause-length : goal.returns-clause-length
returns-clause-length c = grind (arith, nat_tests, length-pec_header_of, c.in_ok-put_labels.ensures.short)
