-- Worked values of verdicts.
use Rattle.std.proofs.Common.{◌≡◌, ℕ, pos, true, false, List, [], ◌∷◌, ◌++◌, Option, Some, None, map, replicate, refl}
use Rattle.route_verdict.proofs.Names.{PieceCert, Cut, Act, Command, Stitch, Stop, Point, DesignValue, Pass, DrawingValue, Verdict, first_differing_act, verdict_of, Jump, Trim}
use Rattle.odd_cuts.specs.declared.faults.CutFault.TheVariants as cut_fault
use Rattle.odd_cuts.specs.declared.faults.WalkFault.TheVariants as walk_fault
use Rattle.design_model.specs.declared.act.Act.TheVariants as act
use Rattle.route_verdict.specs.declared.verdict.Reason.TheVariants as reason
use Rattle.route_verdict.specs.declared.verdict.Verdict.TheVariants as verdict

abbrev pub at : ℕ → Point
at x = record { x = pos x; y = pos 0 }

-- where two lists of acts begin to differ
abbrev pub needle : ℕ → Act
needle x = act.Needle (at x) false

pub known_first_differing_act : (first_differing_act 1 (needle 3 ∷ act.Trim ∷ act.Stop ∷ []) (needle 3 ∷ act.Trim ∷ act.Stop ∷ []) ≡ None)
    × (first_differing_act 1 (needle 3 ∷ needle 4 ∷ []) (needle 3 ∷ needle 5 ∷ []) ≡ Some 2)
    × (first_differing_act 1 (act.Needle (at 3) true ∷ []) (needle 3 ∷ []) ≡ Some 1)
    × (first_differing_act 1 (needle 3 ∷ []) (act.Needle (at 3) true ∷ []) ≡ Some 1)
    × (first_differing_act 1 (act.Needle (at 3) true ∷ []) (act.Needle (at 3) true ∷ []) ≡ None)
known_first_differing_act = (refl, refl, refl, refl, refl)

-- no two of the three kinds are the same
abbrev alone : Act → Act → Option ℕ
alone a b = first_differing_act 1 (a ∷ []) (b ∷ [])

pub known_kinds : alone (needle 3) act.Trim ∷ alone (needle 3) act.Stop ∷ alone act.Trim (needle 3) ∷ alone act.Trim act.Stop
    ∷ alone act.Stop (needle 3) ∷ alone act.Stop act.Trim ∷ [] ≡ replicate 6 (Some 1)
known_kinds = refl

-- the act after the shorter list
pub known_short : (first_differing_act 1 (needle 3 ∷ []) (needle 3 ∷ act.Trim ∷ []) ≡ Some 2)
    × (first_differing_act 1 (needle 3 ∷ act.Trim ∷ act.Stop ∷ []) (needle 3 ∷ act.Trim ∷ []) ≡ Some 3)
known_short = (refl, refl)

-- a stroke of four steps
abbrev pub stroke : DrawingValue
stroke = record {
  label = [];
  step = 10;
  threads = 1 ∷ [];
  lines = record { block = 0; points = at 0 ∷ at 40 ∷ [] } ∷ [];
  starts = [];
  ends = [];
}

abbrev pub forth : ℕ → Pass
forth line = record { line = line; back = false }

abbrev pub back : ℕ → Pass
back line = record { line = line; back = true }

abbrev pub cut : ℕ → List ℕ → Cut
cut weight members = record { weight = weight; members = members }

abbrev pub said : ℕ → List Pass → Cut → PieceCert
said retraced walk c = record { retraced = retraced; walk = walk; cuts = c ∷ [] }

abbrev both_ways : List Pass
both_ways = forth 0 ∷ back 0 ∷ []

abbrev design : List Command → DesignValue
design commands = record { label = []; threads = 1 ∷ []; commands = commands }

abbrev stitches : List ℕ → List Command
stitches xs = map (λ x. Stitch (at x)) xs

-- forth and back along it
abbrev sewn : List Command
sewn = stitches (0 ∷ 10 ∷ 20 ∷ 30 ∷ 40 ∷ 30 ∷ 20 ∷ 10 ∷ 0 ∷ []) ++ Trim ∷ []

abbrev on_stroke : List Command → List PieceCert → Verdict
on_stroke commands certs = verdict_of stroke ((0 ∷ []) ∷ []) (design commands) certs

abbrev right : PieceCert
right = said 4 both_ways (cut 8 (0 ∷ []))

pub known_on_stroke : (on_stroke sewn (right ∷ []) ≡ verdict.Yes)
    × (on_stroke sewn (said 4 (forth 0 ∷ []) (cut 8 (0 ∷ [])) ∷ []) ≡ verdict.No (reason.Walk 1 walk_fault.Open))
    × (on_stroke sewn (said 4 (forth 0 ∷ forth 0 ∷ []) (cut 8 (0 ∷ [])) ∷ []) ≡ verdict.No
    (reason.Walk 1 (walk_fault.Broken 2)))
    × (on_stroke sewn (said 3 both_ways (cut 8 (0 ∷ [])) ∷ []) ≡ verdict.No (reason.Retraced 1 3 4))
    × (on_stroke sewn (said 4 both_ways (cut 8 (2 ∷ [])) ∷ []) ≡ verdict.No (reason.Cuts 1 (cut_fault.Stranger 1 3)))
    × (on_stroke sewn (said 4 both_ways (cut 8 (0 ∷ 1 ∷ [])) ∷ []) ≡ verdict.No (reason.Cuts 1 (cut_fault.EvenCut 1 2)))
    × (on_stroke sewn (said 4 both_ways (cut 9 (0 ∷ [])) ∷ []) ≡ verdict.No (reason.Cuts 1 (cut_fault.Overload 1 9 8)))
    × (on_stroke sewn (said 4 both_ways (cut 7 (0 ∷ [])) ∷ []) ≡ verdict.No (reason.Cuts 1 (cut_fault.Total 7 8)))
    × (on_stroke sewn [] ≡ verdict.No (reason.Pieces 0 1))
    × (on_stroke sewn (right ∷ right ∷ []) ≡ verdict.No (reason.Pieces 2 1))
    -- of one piece the walk is tested first, then the retraced cost, then the cuts, and the acts last
    × (on_stroke [] (said 3 (forth 0 ∷ []) (cut 9 (0 ∷ [])) ∷ []) ≡ verdict.No (reason.Walk 1 walk_fault.Open))
    × (on_stroke [] (said 5 both_ways (cut 9 (0 ∷ [])) ∷ []) ≡ verdict.No (reason.Retraced 1 5 4))
    × (on_stroke [] (said 4 both_ways (cut 6 (0 ∷ [])) ∷ []) ≡ verdict.No (reason.Cuts 1 (cut_fault.Total 6 8)))
    × (on_stroke [] (right ∷ []) ≡ verdict.No (reason.Acts 1))
    -- a trim that is missing, a stop too many, a stitch elsewhere, and one that is a float
    × (on_stroke (stitches (0 ∷ 10 ∷ 20 ∷ 30 ∷ 40 ∷ 30 ∷ 20 ∷ 10 ∷ 0 ∷ [])) (right ∷ []) ≡ verdict.No (reason.Acts 10))
    × (on_stroke (sewn ++ Stop ∷ []) (right ∷ []) ≡ verdict.No (reason.Acts 11))
    × (on_stroke (stitches (0 ∷ 10 ∷ 20 ∷ 35 ∷ 40 ∷ 30 ∷ 20 ∷ 10 ∷ 0 ∷ []) ++ Trim ∷ []) (right ∷ []) ≡ verdict.No
    (reason.Acts 4))
    × (on_stroke (stitches (0 ∷ 10 ∷ []) ++ Jump (at 15) ∷ (stitches (20 ∷ 30 ∷ 40 ∷ 30 ∷ 20 ∷ 10 ∷ 0 ∷ []) ++ Trim ∷ []))
    (right ∷ [])
    ≡ verdict.No (reason.Acts 3))
known_on_stroke = (refl, refl, refl, refl, refl, refl, refl, refl, refl, refl, refl, refl, refl, refl, refl, refl, refl, refl)

-- jumps while the thread is loose, and a trim of a loose thread, are no acts
pub known_loose : on_stroke (Trim ∷ Jump (at 5) ∷ sewn) (right ∷ []) ≡ verdict.Yes
known_loose = refl

-- two strokes in two blocks
abbrev strokes : DrawingValue
strokes = record {
  label = [];
  step = 10;
  threads = 1 ∷ 2 ∷ [];
  lines = record { block = 0; points = at 0 ∷ at 20 ∷ [] } ∷ record { block = 1; points = at 50 ∷ at 80 ∷ [] } ∷ [];
  starts = [];
  ends = [];
}

abbrev first_sewn : List Command
first_sewn = stitches (0 ∷ 10 ∷ 20 ∷ 10 ∷ 0 ∷ []) ++ Trim ∷ []

abbrev second_sewn : List Command
second_sewn = stitches (80 ∷ 70 ∷ 60 ∷ 50 ∷ 60 ∷ 70 ∷ 80 ∷ []) ++ Trim ∷ []

abbrev on_strokes : List Command → PieceCert → PieceCert → Verdict
on_strokes commands first second = verdict_of strokes ((0 ∷ []) ∷ (1 ∷ []) ∷ []) (design commands) (first ∷ second ∷ [])

abbrev first_right : PieceCert
first_right = said 2 both_ways (cut 4 (1 ∷ []))

abbrev second_walk : List Pass
second_walk = back 1 ∷ forth 1 ∷ []

-- a walk may begin at the other end
pub known_on_strokes : (on_strokes (first_sewn ++ Stop ∷ second_sewn) first_right (said 3 second_walk (cut 6 (0 ∷ []))) ≡ verdict.Yes)
    -- the stop between them
    × (on_strokes (first_sewn ++ second_sewn) first_right (said 3 second_walk (cut 6 (0 ∷ []))) ≡ verdict.No (reason.Acts 7))
    -- the second one is wrong, by its own lines
    × (on_strokes (first_sewn ++ Stop ∷ second_sewn) first_right (said 3 both_ways (cut 6 (0 ∷ [])))
    ≡ verdict.No (reason.Walk 2 (walk_fault.Stranger 1)))
    × (on_strokes (first_sewn ++ Stop ∷ second_sewn) first_right (said 2 second_walk (cut 4 (0 ∷ [])))
    ≡ verdict.No (reason.Retraced 2 2 3))
    × (on_strokes (first_sewn ++ Stop ∷ second_sewn) first_right (said 3 second_walk (cut 4 (0 ∷ [])))
    ≡ verdict.No (reason.Cuts 2 (cut_fault.Total 4 6)))
    -- a fault has the line's number in the drawing
    × (on_strokes (first_sewn ++ Stop ∷ second_sewn) first_right (said 3 second_walk (cut 7 (0 ∷ [])))
    ≡ verdict.No (reason.Cuts 2 (cut_fault.Overload 2 7 6)))
    -- the first piece is tested before the second
    × (on_strokes [] (said 1 both_ways (cut 4 (1 ∷ []))) (said 3 both_ways (cut 6 (0 ∷ []))) ≡ verdict.No
    (reason.Retraced 1 1 2))
known_on_strokes = (refl, refl, refl, refl, refl, refl, refl)
