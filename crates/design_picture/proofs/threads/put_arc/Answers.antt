use Rattle.design_picture.proofs.ArcLemmas.{arc_appended}
use Rattle.design_picture.proofs.threads.put_arc.Goals as goal

pub returns : goal.returns
returns c = arc_appended _ _ _ _ _ c.in_ok-put_radii.ensures c.in_ok-put_around.ensures
