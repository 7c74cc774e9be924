-- Tables in which the checks of walks and cuts look things up.
use Rattle.std.specs.Prelude.{◌≡◌, ℕ, ◌+◌, ◌<◌, ◌≤◌, ◌&&◌, Bool, false, List, [], ◌∷◌, Option, Some, None, get_or, slice_get, if◌then◌else◌, Result, Ok, Err}
use Rattle.odd_cuts.specs.declared.cut.Cut.{Cut}
use Rattle.odd_cuts.specs.declared.faults.CutFault.{CutFault}
use Rattle.odd_cuts.specs.declared.faults.WalkFault.{WalkFault}
use Rattle.odd_cuts.specs.declared.walk_check.WalkSummary.{WalkSummary}
use Rattle.odd_cuts.specs.CutFaults.{cut_fault, cut_faults, load_fault}
use Rattle.odd_cuts.specs.Cuts.{crosses, has_member, load_on}
use Rattle.odd_cuts.specs.Faults.{first_fault}
use Rattle.odd_cuts.specs.WalkFaults.{faults_from, pass_faults}
use Rattle.line_graph.specs.declared.edge.Edge.{Edge}
use Rattle.line_graph.specs.declared.limits.TheConstants.{MAX_LINES}
use Rattle.line_graph.specs.declared.pass.Pass.{Pass}
use Rattle.line_graph.specs.PieceGraphs.{PieceValue, one_if, given_start, is_odd, given_end}
use Rattle.line_graph.specs.PieceWalks.{edge_cost, edge_of, walk_start, pass_sum, walk_end_from}
use Rattle.line_graph.specs.ClosedDegrees.{closing_ends}

-- For each line of the drawing, the index of its edge in the piece, or an index where there is
-- none.
abbrev pub AreEdgeIndexes : List ℕ → List Edge → List ℕ → Type 0
AreEdgeIndexes lines edges places =
    (line : ℕ) → slice_get edges (get_or places line MAX_LINES) ≡ edge_of lines edges line

-- The summary of the passes from a given junction: where they lead, and their cost; or their first
-- fault.
abbrev pub IsSummaryFrom : List ℕ → List Edge → ℕ → List Pass → Result WalkSummary WalkFault
    → Type 0
IsSummaryFrom lines edges start walk (Ok trail) = (faults_from lines edges 1 start walk ≡ None)
    × (trail.start ≡ Some start) × (walk_end_from lines edges (Some start) walk ≡ trail.end)
    × (trail.cost ≡ pass_sum lines edges edge_cost walk)
IsSummaryFrom lines edges start walk (Err found) = faults_from lines edges 1 start walk ≡ Some found

-- The summary of a walk: where it leads from and to, and its cost; or its first fault.
abbrev pub IsWalkSummary : List ℕ → List Edge → List Pass → Result WalkSummary WalkFault → Type 0
IsWalkSummary lines edges walk (Ok trail) = (pass_faults lines edges walk ≡ None)
    × (trail.start ≡ walk_start lines edges walk)
    × (trail.end ≡ walk_end_from lines edges (walk_start lines edges walk) walk)
    × (trail.cost ≡ pass_sum lines edges edge_cost walk)
IsWalkSummary lines edges walk (Err found) = pass_faults lines edges walk ≡ Some found

-- For each junction, whether it is a member of a cut.
abbrev pub AreMemberFlags : List ℕ → List Bool → Type 0
AreMemberFlags members held = (j : ℕ) → j < MAX_LINES + 1
    → get_or held j false ≡ has_member members j

-- Whether each junction with index `at` or above is odd, by the degrees.
abbrev pub parities_from : (from to : Option ℕ) → (at : ℕ) → List ℕ → List Bool
parities_from from to at [] = []
parities_from from to at (degree ∷ rest) =
    is_odd (closing_ends from to at + degree) ∷ parities_from from to (at + 1) rest

-- Whether each junction of a piece is odd.
abbrev pub AreParities : PieceValue → List Bool → Type 0
AreParities p parities = parities ≡ parities_from (given_start p) (given_end p) 0 p.degrees

-- The number of odd junctions with index `at` or above in a set.
abbrev pub odd_among : (ℕ → Bool) → ℕ → List Bool → ℕ
odd_among set at [] = 0
odd_among set at (odd ∷ rest) = one_if (set at && odd) + odd_among set (at + 1) rest

-- The first fault of a cut, else its members.
abbrev pub ChecksCut : PieceValue → ℕ → Cut → Result (List Bool) CutFault → Type 0
ChecksCut p number cut (Ok held) = (cut_fault p number cut ≡ None) × AreMemberFlags cut.members held
ChecksCut p number cut (Err found) = cut_fault p number cut ≡ Some found

-- The load of one cut on an edge.
abbrev pub share_of : Cut → Edge → ℕ
share_of cut e = if crosses cut.members e then cut.weight else 0

-- The load of the cuts on each edge, by its index.
abbrev pub AreLoads : List Cut → List Edge → List ℕ → Type 0
AreLoads cuts edges loads =
    (i : ℕ) (e : Edge) → slice_get edges i ≡ Some e → get_or loads i 0 ≡ load_on cuts e

-- No load is above a maximum.
abbrev pub AreAtMost : ℕ → List ℕ → Type 0
AreAtMost most loads = (i : ℕ) → get_or loads i 0 ≤ most

-- The load of one cut is added to each edge.
abbrev pub AddsShares : Cut → List Edge → (old new : List ℕ) → Type 0
AddsShares cut edges old new =
    (i : ℕ) (e : Edge) → slice_get edges i ≡ Some e
    → get_or new i 0 ≡ get_or old i 0 + share_of cut e

-- The first fault of the cuts one by one, else their loads on the edges.
abbrev pub ChecksCuts : PieceValue → List Cut → Result (List ℕ) CutFault → Type 0
ChecksCuts p cuts (Ok loads) = (cut_faults p 1 cuts ≡ None) × AreLoads cuts p.edges loads
ChecksCuts p cuts (Err found) = cut_faults p 1 cuts ≡ Some found

-- The first line whose load in a table is too high; a missing load is 0.
abbrev pub table_load_faults : List ℕ → List Edge → (loads : List ℕ) → Option CutFault
table_load_faults [] edges loads = None
table_load_faults (line ∷ lines) [] loads = None
table_load_faults (line ∷ lines) (e ∷ edges) [] = table_load_faults lines edges []
table_load_faults (line ∷ lines) (e ∷ edges) (load ∷ loads) =
    first_fault (load_fault line load e.cost) (table_load_faults lines edges loads)
