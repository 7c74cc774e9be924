use Rattle.std.proofs.Common.{◌<◌, get_or, rules}
use Rattle.pec_codec.proofs.ThreadLemmas.{threads_told}
use Rattle.pec_codec.proofs.header.threads_of_block.Goals as goal

pub returns-clause-value : goal.returns-clause-value
returns-clause-value c =
    let byte = c.type_inv.header 48 in
    let small : get_or c.args.header.now 48 0 < 256 = search rules in
    λ more. threads_told c.args.header.now more c.requires small c.if-number.false
