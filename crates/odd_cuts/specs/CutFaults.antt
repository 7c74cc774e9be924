-- The first fault of cuts of a piece. Cuts, junctions and lines are reported by number, from 1.
-- Weights, loads and totals count halves of a step, costs count steps.
use Rattle.std.specs.Prelude.{ℕ, ◌+◌, ◌*◌, ◌<◌, ◌==◌, ◌^◌, List, [], ◌∷◌, length, All, Option, Some, None, nat_le, nat_lt, if◌then◌else◌}
use Rattle.odd_cuts.specs.declared.cut.Cut.{Cut}
use Rattle.odd_cuts.specs.declared.faults.CutFault.{CutFault}
use Rattle.odd_cuts.specs.declared.faults.CutFault.TheVariants as fault
use Rattle.odd_cuts.specs.Cuts.{load_on, total_weight}
use Rattle.odd_cuts.specs.Faults.{first_fault}
use Rattle.odd_cuts.specs.Packings.{odd_held}
use Rattle.line_graph.specs.declared.edge.Edge.{Edge}
use Rattle.line_graph.specs.PieceGraphs.{PieceValue, is_odd}

-- No member of the cuts is the maximum of 32 bits, so that each has a number.
abbrev pub HaveNumberedMembers : List Cut → Type 0
HaveNumberedMembers cuts = All (λ (cut : Cut). All (λ j. j + 1 < 2 ^ 32) cut.members) cuts

-- The first member that isn't a junction of the piece.
abbrev pub stranger_fault : (count number : ℕ) → List ℕ → Option CutFault
stranger_fault count number [] = None
stranger_fault count number (j ∷ members) =
    if nat_lt j count
    then stranger_fault count number members
    else Some (fault.Stranger number (j + 1))

-- The fault of a cut with an even number of odd junctions.
abbrev pub even_fault : (number odd : ℕ) → Option CutFault
even_fault number odd = if is_odd odd then None else Some (fault.EvenCut number odd)

-- The first fault of the cut with the given number.
abbrev pub cut_fault : PieceValue → ℕ → Cut → Option CutFault
cut_fault p number cut = first_fault (stranger_fault (length p.junctions) number cut.members)
    (even_fault number (odd_held p cut.members))

-- The first fault of cuts one by one, where the first of them has the given number.
abbrev pub cut_faults : PieceValue → ℕ → List Cut → Option CutFault
cut_faults p number [] = None
cut_faults p number (cut ∷ rest) =
    first_fault (cut_fault p number cut) (cut_faults p (number + 1) rest)

-- The fault of a line whose load exceeds two halves for each of its steps.
abbrev pub load_fault : (line load cost : ℕ) → Option CutFault
load_fault line load cost =
    if nat_le load (2 * cost) then None else Some (fault.Overload (line + 1) load (2 * cost))

-- The first line whose load exceeds two halves for each of its steps.
abbrev pub load_faults : List Cut → List ℕ → List Edge → Option CutFault
load_faults cuts [] edges = None
load_faults cuts (line ∷ lines) [] = None
load_faults cuts (line ∷ lines) (e ∷ edges) =
    first_fault (load_fault line (load_on cuts e) e.cost) (load_faults cuts lines edges)

-- The fault of a total weight that isn't the needed one.
abbrev pub total_fault : (sum needed : ℕ) → Option CutFault
total_fault sum needed = if sum == needed then None else Some (fault.Total sum needed)

-- The first fault of cuts: of the cuts in order, then of the lines in order, then of the total
-- weight. The total must be twice the retraced cost.
abbrev pub cuts_fault : PieceValue → ℕ → List Cut → Option CutFault
cuts_fault p retraced cuts = first_fault (cut_faults p 1 cuts)
    (first_fault (load_faults cuts p.lines p.edges)
    (total_fault (total_weight cuts) (2 * retraced)))
