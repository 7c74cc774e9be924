use Rattle.drawing_text.proofs.ValidTextLemmas.{as2_valid, texts_valid}
use Rattle.drawing_text.proofs.theorems.texts_define_valid_drawings.Goals as goal

pub returns-clause-own : goal.returns-clause-own
returns-clause-own c =
    let growing = c.growing_drawings_keep_limits.ensures in
    texts_valid growing.empty growing.label growing.step growing.block growing.line growing.finished
    c.joined_drawings_are_valid.ensures c.walk_ends_keep_drawings_valid.ensures

pub returns-clause-as2 : goal.returns-clause-as2
returns-clause-as2 c =
    let growing = c.growing_drawings_keep_limits.ensures in
    as2_valid growing.empty growing.label growing.step growing.block growing.line growing.finished
    c.joined_drawings_are_valid.ensures c.walk_ends_keep_drawings_valid.ensures
