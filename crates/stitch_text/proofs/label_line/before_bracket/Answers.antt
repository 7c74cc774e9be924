use Rattle.std.proofs.Common.{◌∷◌, [], arith}
use Rattle.stitch_text.proofs.Names.{nat_tests, Decides-eqb, strip_suffix_is}
use Rattle.stitch_text.proofs.label_line.before_bracket.Goals as goal

pub returns-clause-some : goal.returns-clause-some
returns-clause-some c =
    grind (arith, nat_tests, (strip_suffix_is Decides-eqb c.args.bytes.now (93 ∷ []) c.strip_suffix.result c.strip_suffix.ensures.cases))
