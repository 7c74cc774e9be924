use Rattle.format_traits.proofs.LawLemmas.{codecs_keep_laws}
use Rattle.format_traits.proofs.theorems.codecs_keep_the_laws.Goals as goal

pub returns : goal.returns
returns c = codecs_keep_laws
