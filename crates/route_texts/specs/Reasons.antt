-- The texts for a failed check. Pieces, passes, cuts, junctions, lines and acts are numbered from
-- 1; costs count steps, and weights halves of a step.
use Rattle.std.specs.Prelude.{ℕ, List, ◌++◌, codes, decimal}
use Rattle.odd_cuts.specs.declared.faults.CutFault.{CutFault}
use Rattle.odd_cuts.specs.declared.faults.CutFault.TheVariants as cut
use Rattle.odd_cuts.specs.declared.faults.WalkFault.{WalkFault}
use Rattle.odd_cuts.specs.declared.faults.WalkFault.TheVariants as walk
use Rattle.route_verdict.specs.declared.verdict.Reason.{Reason}
use Rattle.route_verdict.specs.declared.verdict.Reason.TheVariants as reason

-- A text about a piece.
abbrev pub piece_fault_text : ℕ → List ℕ → List ℕ
piece_fault_text piece text = codes "no: piece " ++ (decimal piece ++ (codes ": " ++ text))

-- The text about a fault in the walk of a piece.
abbrev pub walk_fault_text : WalkFault → List ℕ
walk_fault_text (walk.Stranger pass) =
    codes "pass " ++ (decimal pass ++ codes " is not a line of the piece")
walk_fault_text (walk.Broken pass) =
    codes "pass " ++ (decimal pass ++ codes " does not start where the one before ends")
walk_fault_text walk.WrongStart = codes "walk does not begin at its start"
walk_fault_text walk.WrongEnd = codes "walk does not end at its end"
walk_fault_text walk.Open = codes "walk is not closed"
walk_fault_text (walk.Missing line) = codes "line " ++ (decimal line ++ codes " is not sewn")

-- The text about a retraced cost: as the certificate states it, and as its walk has it.
abbrev pub retraced_text : (said found : ℕ) → List ℕ
retraced_text said found =
    codes "retraced " ++ (decimal said ++ (codes " said, " ++ (decimal found ++ codes " found")))

-- The text about a fault in the cuts of a piece.
abbrev pub cut_fault_text : CutFault → List ℕ
cut_fault_text (cut.Stranger number junction) =
    codes "cut " ++ (decimal number ++ (codes " names junction " ++ decimal junction))
cut_fault_text (cut.EvenCut number odd) =
    codes "cut " ++ (decimal number ++ (codes " holds " ++ (decimal odd ++ codes " odd junctions")))
cut_fault_text (cut.Overload line load allowed) =
    codes "line " ++ (decimal line ++ (codes " carries " ++ (decimal load
    ++ (codes " halves, allowed " ++ decimal allowed))))
cut_fault_text (cut.Total sum needed) =
    codes "cuts give " ++ (decimal sum ++ (codes " halves, needed " ++ decimal needed))

-- The text for a failed check.
abbrev pub reason_text : Reason → List ℕ
reason_text (reason.Pieces found drawn) =
    codes "no: certificate has " ++ (decimal found ++ (codes " pieces, drawing has "
    ++ decimal drawn))
reason_text (reason.Walk piece fault) = piece_fault_text piece (walk_fault_text fault)
reason_text (reason.Retraced piece said found) = piece_fault_text piece (retraced_text said found)
reason_text (reason.Cuts piece fault) = piece_fault_text piece (cut_fault_text fault)
reason_text (reason.Acts number) = codes "no: act " ++ (decimal number ++ codes " differs")
