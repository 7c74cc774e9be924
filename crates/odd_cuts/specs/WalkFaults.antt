-- The first fault of a walk over a piece. Passes and lines are reported by number, from 1.
use Rattle.std.specs.Prelude.{◌≡◌, ℕ, ◌+◌, ◌==◌, Bool, List, [], ◌∷◌, Option, Some, None, Result, Ok, Err, if◌then◌else◌}
use Rattle.odd_cuts.specs.declared.faults.WalkFault.{WalkFault}
use Rattle.odd_cuts.specs.declared.faults.WalkFault.TheVariants as fault
use Rattle.odd_cuts.specs.Faults.{first_fault}
use Rattle.line_graph.specs.declared.edge.Edge.{Edge}
use Rattle.line_graph.specs.declared.pass.Pass.{Pass}
use Rattle.line_graph.specs.PieceGraphs.{PieceValue, given_start, given_end}
use Rattle.line_graph.specs.PieceWalks.{are_same_junction, edge_of, pass_end, walk_start, is_line_passed, pass_start, walk_cost, walk_end_from}

-- The fault of a pass along an edge from a junction; if it has none, the first fault after its end.
abbrev pub pass_fault : (number at : ℕ) → Option Edge → Bool → (ℕ → Option WalkFault)
    → Option WalkFault
pass_fault number at None back after = Some (fault.Stranger number)
pass_fault number at (Some e) back after =
    if pass_start e back == at then after (pass_end e back) else Some (fault.Broken number)

-- The first fault of passes from a junction on, where the first of them has the given number.
abbrev pub faults_from : List ℕ → List Edge → (number at : ℕ) → List Pass → Option WalkFault
faults_from lines edges number at [] = None
faults_from lines edges number at (pass ∷ rest) =
    pass_fault number at (edge_of lines edges pass.line) pass.back
    (λ next. faults_from lines edges (number + 1) next rest)

-- The first fault of passes that start at an optional junction.
abbrev pub faults_at : List ℕ → List Edge → List Pass → Option ℕ → Option WalkFault
faults_at lines edges walk None = Some (fault.Stranger 1)
faults_at lines edges walk (Some at) = faults_from lines edges 1 at walk

-- The first pass that is along no line of the piece, or doesn't start where the one before ends.
abbrev pub pass_faults : List ℕ → List Edge → List Pass → Option WalkFault
pass_faults lines edges [] = None
pass_faults lines edges (pass ∷ rest) =
    faults_at lines edges (pass ∷ rest) (walk_start lines edges (pass ∷ rest))

-- The fault of the ends of a walk: it must start and end where required, or be closed where nothing
-- is required.
abbrev pub ends_fault : (from to start end : Option ℕ) → Option WalkFault
ends_fault (Some from) to start end =
    if are_same_junction start (Some from)
    then (if are_same_junction end to then None else Some fault.WrongEnd)
    else Some fault.WrongStart
ends_fault None to start end = if are_same_junction end start then None else Some fault.Open

-- The fault of the ends of a walk over a piece.
abbrev pub walk_ends_fault : PieceValue → List Pass → Option WalkFault
walk_ends_fault p walk = ends_fault (given_start p) (given_end p) (walk_start p.lines p.edges walk)
    (walk_end_from p.lines p.edges (walk_start p.lines p.edges walk) walk)

-- The first line that isn't passed.
abbrev pub missing_fault : List ℕ → List Pass → Option WalkFault
missing_fault [] walk = None
missing_fault (line ∷ lines) walk =
    if is_line_passed line walk then missing_fault lines walk else Some (fault.Missing (line + 1))

-- The first fault of a walk: of its passes in order, then of its ends, then of the lines in order.
abbrev pub walk_fault : PieceValue → List Pass → Option WalkFault
walk_fault p walk = first_fault (pass_faults p.lines p.edges walk)
    (first_fault (walk_ends_fault p walk) (missing_fault p.lines walk))

-- A result reports the first fault of a walk, or returns its cost where there is none.
abbrev pub ChecksWalk : PieceValue → List Pass → Result ℕ WalkFault → Type 0
ChecksWalk p walk (Ok cost) = (walk_fault p walk ≡ None) × (cost ≡ walk_cost p walk)
ChecksWalk p walk (Err found) = walk_fault p walk ≡ Some found
