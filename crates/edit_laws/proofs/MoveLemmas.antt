-- A valid joined drawing that is moved is drawn as exactly the moved drawing.
use Rattle.std.proofs.Common.{◌≡◌, ap}
use Rattle.edit_laws.proofs.Names.{Point, is_same_point, moved_drawing}
use Rattle.design_edits.specs.declared.motion.Motion.{Motion}
use Rattle.design_edits.specs.declared.motion.Motion.TheVariants as motion
use Rattle.design_edits.specs.Motions.{motion_map}
use Rattle.drawing_edits.specs.EditFaults.{edit_answer}
use Rattle.drawing_edits.specs.ValidRedraws.{ValidDrawingsAreRedrawn}
use Rattle.edit_laws.specs.MoveLaws.{MovesAreExact}
use Rattle.edit_laws.proofs.MovedJoints.{valid_moved}
use Rattle.edit_laws.proofs.ShiftLemmas.{same_kept}
use Rattle.edit_laws.proofs.TurnLemmas.{mirror_same, turn_same}

-- motions keep whether two points are equal
map_same : (m : Motion) (p q : Point) → is_same_point (motion_map m p) (motion_map m q) ≡ is_same_point p q
map_same (motion.Shift dx dy) p q = same_kept dx dy p q
map_same (motion.Turn quarters) p q = turn_same quarters p q
map_same (motion.Mirror a) p q = mirror_same a p q

pub moves_exact : ValidDrawingsAreRedrawn → MovesAreExact
moves_exact redrawn_as m d is keeps =
    ap edit_answer (redrawn_as (moved_drawing (motion_map m) d) (valid_moved (motion_map m) (map_same m) d is keeps))
