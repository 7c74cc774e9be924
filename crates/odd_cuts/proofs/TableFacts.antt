-- What the tables of the checks hold, and what a check of a walk, of a cut and of cuts reports.
use Rattle.std.proofs.Common.{◌≡◌, ℕ, ◌+◌, ◌*◌, ◌%◌, ◌<◌, ◌≤◌, ◌==◌, Bool, if◌then◌else◌, All, length, count_by, sum_by, true, false, List, [], ◌∷◌, Option, Some, None, Ok, Err, get_or, slice_get, refl, arith}
use Rattle.odd_cuts.proofs.Names.{nat_tests, AddsShares, AreAtMost, ChecksWalk, Cut, CutFault, Edge, IsPacking, IsValidPiece, Pass, ReportsFault, junctions_of, odd_among, table_load_faults}
use Rattle.line_graph.specs.Drawings.{DrawingValue}
use Rattle.line_graph.specs.DrawnWalks.{given_point}
use Rattle.line_graph.specs.LineNeedles.{cost_of_line}
use Rattle.line_graph.specs.PieceGraphs.{piece_graph}
use Rattle.odd_cuts.specs.CheckTables.{AreEdgeIndexes, AreMemberFlags, AreParities, ChecksCut, ChecksCuts, IsSummaryFrom, IsWalkSummary}
use Rattle.odd_cuts.specs.DrawnCuts.{IsPackingOver, PackingsAreOverLines, given_apart, leads_out}
use Rattle.odd_cuts.specs.declared.faults.CutFault.TheVariants as cut_fault
use Rattle.odd_cuts.specs.declared.faults.WalkFault.{WalkFault}
use Rattle.odd_cuts.specs.declared.faults.WalkFault.TheVariants as walk_fault
use Rattle.odd_cuts.specs.declared.walk_check.WalkSummary.{WalkSummary}
use Rattle.odd_cuts.proofs.WalkFaultFacts.{closed, edge}

abbrev pass : ℕ → Bool → Pass
pass line back = record { line = line; back = back }

abbrev cut : ℕ → List ℕ → Cut
cut weight members = record { weight = weight; members = members }

-- the lines 4 and 7 lead from junction 0 over 1 to 2
abbrev lines : List ℕ
lines = 4 ∷ 7 ∷ []

abbrev edges : List Edge
edges = edge 0 1 3 ∷ edge 1 2 5 ∷ []

abbrev there : List Pass
there = pass 4 false ∷ pass 7 false ∷ []

-- each line has its edge, and other lines none
pub known_indexes : (places : List ℕ) → AreEdgeIndexes lines edges places
    → (slice_get edges (get_or places 7 1024) ≡ Some (edge 1 2 5)) × (slice_get edges (get_or places 5 1024) ≡ None)
known_indexes places are = (are 7, are 5)

-- a walk's ends and its cost, or its first fault
pub known_summary : (t : WalkSummary) → (IsSummaryFrom lines edges 0 there (Ok t) → (t.start ≡ Some 0) × (Some 2 ≡ t.end) × (t.cost ≡ 8))
    × (IsWalkSummary lines edges there (Ok t) → (t.start ≡ Some 0) × (t.end ≡ Some 2) × (t.cost ≡ 8))
known_summary t = (λ is. (is.1, is.2, is.3), λ is. (is.1, is.2, is.3))

no_fault : (f : WalkFault) → ◌≡◌ {A = Option WalkFault} (Some f) None → ⊥
no_fault f is = cc

pub known_broken : (t : WalkSummary) → (IsSummaryFrom lines edges 1 there (Ok t) → ⊥)
    × (IsWalkSummary lines edges (pass 4 false ∷ pass 7 true ∷ []) (Ok t) → ⊥)
known_broken t = (λ is. no_fault (walk_fault.Broken 1) is.0, λ is. no_fault (walk_fault.Broken 2) is.0)

pub known_found : (f : WalkFault) → (IsSummaryFrom lines edges 1 there (Err f) → Some (walk_fault.Broken 1) ≡ Some f)
    × (IsWalkSummary lines edges (pass 4 false ∷ pass 5 false ∷ []) (Err f) → Some (walk_fault.Stranger 2) ≡ Some f)
known_found f = (λ is. is, λ is. is)

-- the star's junctions are all odd, and of the last two the one that a set has counts
pub known_parities : (parities : List Bool) → AreParities closed parities → parities ≡ true ∷ true ∷ true ∷ true ∷ []
known_parities parities are = are

pub known_odd_among : odd_among (λ j. j == 6) 5 (true ∷ true ∷ false ∷ []) ≡ 1
known_odd_among = refl

-- a check of a walk, and of a cut: its members, or its first fault
pub known_checked : (cost : ℕ) (f : WalkFault) → (ChecksWalk closed (pass 0 false ∷ pass 0 true ∷ []) (Ok cost) → ⊥)
    × (ChecksWalk closed (pass 0 false ∷ pass 0 true ∷ []) (Err f) → Some (walk_fault.Missing 3) ≡ Some f)
    × (ChecksWalk closed (pass 0 false ∷ pass 0 true ∷ pass 2 false ∷ pass 2 true ∷ pass 5 true ∷ pass 5 false ∷ []) (Ok cost) → cost ≡ 12)
known_checked cost f = (λ is. no_fault (walk_fault.Missing 3) is.0, λ is. is, λ is. is.1)

no_cut_fault : (f : CutFault) → ◌≡◌ {A = Option CutFault} (Some f) None → ⊥
no_cut_fault f is = cc

pub known_cut : (held : List Bool) (f : CutFault)
    → (ChecksCut closed 4 (cut 1 (1 ∷ [])) (Ok held) → (get_or held 1 false ≡ true) × (get_or held 1024 false ≡ false))
    × (ChecksCut closed 4 (cut 1 (1 ∷ 2 ∷ [])) (Ok held) → ⊥)
    × (ChecksCut closed 4 (cut 1 (1 ∷ 2 ∷ [])) (Err f) → Some (cut_fault.EvenCut 4 2) ≡ Some f)
known_cut held f = (λ is. (is.1 1 (omega arith), is.1 1024 (omega arith)), λ is. no_cut_fault (cut_fault.EvenCut 4 2) is.0, λ is. is)

-- the last junction that a drawing may have is 1024, and of later ones nothing is said
pub known_flags : AreMemberFlags (1025 ∷ []) []
known_flags j below = grind (arith, nat_tests, below)

-- the loads of cuts, and what one more adds
pub known_cuts : (loads : List ℕ) (f : CutFault)
    → (ChecksCuts closed (cut 4 (1 ∷ []) ∷ cut 3 (0 ∷ 1 ∷ 2 ∷ []) ∷ []) (Ok loads) → (get_or loads 0 0 ≡ 4) × (get_or loads 2 0 ≡ 3))
    × (ChecksCuts closed (cut 4 (1 ∷ []) ∷ cut 3 (1 ∷ 2 ∷ []) ∷ []) (Ok loads) → ⊥)
    × (ChecksCuts closed (cut 4 (1 ∷ []) ∷ cut 3 (1 ∷ 2 ∷ []) ∷ []) (Err f) → Some (cut_fault.EvenCut 2 2) ≡ Some f)
known_cuts loads f = (
  λ is. (is.1 0 (edge 0 1 2) refl, is.1 2 (edge 3 0 1) refl),
  λ is. no_cut_fault (cut_fault.EvenCut 2 2) is.0,
  λ is. is,
)

pub known_share : (new : List ℕ) → AddsShares (cut 6 (1 ∷ [])) edges (7 ∷ 8 ∷ []) new → (get_or new 0 0 ≡ 13) × (get_or new 1 0 ≡ 14)
known_share new adds = (adds 0 (edge 0 1 3) refl, adds 1 (edge 1 2 5) refl)

pub known_no_share : (new : List ℕ) → AddsShares (cut 6 (2 ∷ [])) edges (7 ∷ 8 ∷ []) new → get_or new 0 0 ≡ 7
known_no_share new adds = adds 0 (edge 0 1 3) refl

pub known_most : AreAtMost 8 (7 ∷ 9 ∷ []) → ⊥
known_most are = more (are 1)
  where
    more : 9 ≤ 8 → ⊥
    more less = omega (arith, less)

-- the first line whose load is too high, where a line without a load has none
pub known_overload : (table_load_faults lines edges (6 ∷ 11 ∷ []) ≡ Some (cut_fault.Overload 8 11 10))
    × (table_load_faults lines edges (7 ∷ 11 ∷ []) ≡ Some (cut_fault.Overload 5 7 6)) × (table_load_faults lines edges (6 ∷ []) ≡ None)
known_overload = (refl, refl, refl)

-- a result reports what was found, and nothing where nothing was
pub known_reports : (f : ℕ) → (ReportsFault {T = ℕ} {F = ℕ} (Some 3) (Ok 1) → ⊥) × (ReportsFault {T = ℕ} None (Err f) → ⊥)
    × (ReportsFault {T = ℕ} (Some 3) (Err f) → ◌≡◌ {A = Option ℕ} (Some 3) (Some f))
known_reports f = (λ is. some is, λ is. none is, λ is. is)
  where
    some : ◌≡◌ {A = Option ℕ} (Some 3) None → ⊥
    some is = cc

    none : ◌≡◌ {A = Option ℕ} None (Some f) → ⊥
    none is = cc

-- packings of a piece's graph are those over its lines, each way
pub known_packings : PackingsAreOverLines → (d : DrawingValue) (lines : List ℕ) (cuts : List Cut) → IsValidPiece (piece_graph d lines)
    → (IsPacking (piece_graph d lines) cuts → IsPackingOver d lines cuts)
    × (IsPackingOver d lines cuts → IsPacking (piece_graph d lines) cuts)
known_packings law d lines cuts valid = let both = law d lines cuts valid in (both.0, both.1)

-- a cut of a packing over two lines has junctions, parts an odd number of lines, start and end counted, and loads none too much
pub known_over : (d : DrawingValue) (one : Cut) → IsPackingOver d (4 ∷ 7 ∷ []) (one ∷ [])
    → All (λ j. j < length (junctions_of d (4 ∷ 7 ∷ []))) one.members
    × ((count_by (leads_out d (4 ∷ 7 ∷ []) one) (4 ∷ 7 ∷ []) + given_apart d (4 ∷ 7 ∷ []) one
    (given_point d (4 ∷ 7 ∷ []) d.starts) (given_point d (4 ∷ 7 ∷ []) d.ends)) % 2 ≡ 1)
    × (sum_by (λ (c : Cut). if leads_out d (4 ∷ 7 ∷ []) c 7 then c.weight else 0) (one ∷ []) ≤ 2 * cost_of_line d 7)
known_over d one is = let odd = is.odd 0 one (omega arith) in (odd.there, odd.odd, is.loads 1 4 (omega arith))
