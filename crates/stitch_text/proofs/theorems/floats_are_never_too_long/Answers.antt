use Rattle.stitch_text.proofs.FloatLemmas.{no_float_is_too_long}
use Rattle.stitch_text.proofs.theorems.floats_are_never_too_long.Goals as goal

pub returns : goal.returns
returns c = no_float_is_too_long
