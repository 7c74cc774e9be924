-- The traversal that makes a double walk: a depth-first search. The legs that it went out are its
-- stack.
use Rattle.std.specs.Prelude.{◌≡◌, ℕ, ◌+◌, ◌*◌, ◌<◌, ◌==◌, ◌&&◌, ◌||◌, Bool, true, false, not, List, [], ◌∷◌, ◌++◌, Some, length, get_or, slice_get, nat_lt}
use Rattle.line_graph.specs.declared.edge.Edge.{Edge}
use Rattle.line_graph.specs.declared.pass.Pass.{Pass}
use Rattle.line_graph.specs.PieceGraphs.{PieceValue, one_if}
use Rattle.line_graph.specs.Pieces.{first_line}
use Rattle.line_graph.specs.PieceWalks.{BeginsWith, edge_cost, pass_sum, pass_start, walk_end_from}
use Rattle.double_run.specs.declared.legs.DirectedLeg.{DirectedLeg}
use Rattle.double_run.specs.declared.traversal.Traversal.{Traversal}
use Rattle.double_run.specs.DoubleWalks.{directed_passes}
use Rattle.euler_tour.specs.Cursors.{AreCursors}

-- The pass along a leg.
abbrev pub leg_pass : List ℕ → DirectedLeg → Pass
leg_pass lines leg = record { line = get_or lines leg.place 0; back = leg.back }

-- The pass back along a leg.
abbrev pub leg_return : List ℕ → DirectedLeg → Pass
leg_return lines leg = record { line = get_or lines leg.place 0; back = not leg.back }

-- The return walk: back along all legs of the stack, the last one first.
abbrev pub return_walk : List ℕ → List DirectedLeg → List Pass
return_walk lines [] = []
return_walk lines (leg ∷ out) = return_walk lines out ++ leg_return lines leg ∷ []

-- An edge has an end at a junction.
abbrev pub has_end_at : Edge → ℕ → Bool
has_end_at e j = e.a == j || e.b == j

-- The line at an index was passed.
abbrev pub WasPassed : List Bool → ℕ → Type 0
WasPassed passed k = get_or passed k false ≡ true

-- A junction was visited: some passed line ends there.
abbrev pub is_visited : List Bool → List Edge → ℕ → Bool
is_visited [] edges j = false
is_visited (p ∷ passed) [] j = false
is_visited (p ∷ passed) (e ∷ edges) j = (p && has_end_at e j) || is_visited passed edges j

-- A junction is exhausted: all lines that end there were passed.
abbrev pub is_exhausted : List Bool → List Edge → ℕ → Bool
is_exhausted [] edges j = true
is_exhausted (p ∷ passed) [] j = true
is_exhausted (p ∷ passed) (e ∷ edges) j = (p || not (has_end_at e j)) && is_exhausted passed edges j

-- The edge at an index.
abbrev pub edge_at : List Edge → ℕ → Edge
edge_at edges place = get_or edges place (record { a = 0; b = 0; cost = 0 })

-- The cost of the passed lines, each once.
abbrev pub passed_cost : List Bool → List Edge → ℕ
passed_cost [] edges = 0
passed_cost (p ∷ passed) [] = 0
passed_cost (true ∷ passed) (e ∷ edges) = e.cost + passed_cost passed edges
passed_cost (false ∷ passed) (e ∷ edges) = passed_cost passed edges

-- A junction is on the stack: one of the legs starts there.
abbrev pub is_on_stack : List Edge → List DirectedLeg → ℕ → Bool
is_on_stack edges [] j = false
is_on_stack edges (leg ∷ out) j = pass_start (edge_at edges leg.place) leg.back == j
    || is_on_stack edges out j

-- All legs have an index below n.
abbrev pub legs_are_below : ℕ → List DirectedLeg → Bool
legs_are_below n [] = true
legs_are_below n (leg ∷ out) = nat_lt leg.place n && legs_are_below n out

-- A leg along a line that wasn't passed, from a junction.
pub record IsLegFrom (edges : List Edge) (passed : List Bool) (at : ℕ) (leg : DirectedLeg) : Type 0
  where
    pub edge : Edge
    pub there : slice_get edges leg.place ≡ Some edge
    pub starts : pass_start edge leg.back ≡ at
    pub left : slice_get passed leg.place ≡ Some false

-- The invariant of a traversal. The walk leads from the root to `at`, and the return walk from
-- there to the root. Together they pass each passed line once in each direction, and no others, at
-- twice the cost of these lines. Each visited junction is exhausted, is `at`, or is on the stack.
pub record IsTraversalInvariant (lines : List ℕ) (edges : List Edge) (walk : List Pass)
    (out : List DirectedLeg)
    (passed : List Bool) (root at : ℕ) : Type 0 where
  pub beside : length passed ≡ length edges
  pub led : walk_end_from lines edges (Some root) walk ≡ Some at
  pub home : walk_end_from lines edges (Some at) (return_walk lines out) ≡ Some root
  pub legs : legs_are_below (length edges) out ≡ true
  pub counted : (k : ℕ) (way : Bool) → k < length lines
      → directed_passes (get_or lines k 0) way walk + directed_passes (get_or lines k 0) way
      (return_walk lines out)
      ≡ one_if (get_or passed k false)
  pub sums : pass_sum lines edges edge_cost walk + pass_sum lines edges edge_cost
      (return_walk lines out)
      ≡ 2 * passed_cost passed edges
  pub spent : (j : ℕ) → is_visited passed edges j ≡ true → (at == j) ≡ false
      → is_on_stack edges out j ≡ false → is_exhausted passed edges j ≡ true

-- The junction where the first line starts.
abbrev pub root_junction : List Edge → ℕ
root_junction [] = 0
root_junction (e ∷ edges) = e.a

-- The invariant of a traversal over a piece.
abbrev pub KeepsTraversal : PieceValue → Traversal → Type 0
KeepsTraversal p o = IsTraversalInvariant p.lines p.edges o.walk o.out.items o.passed.items
    (root_junction p.edges) o.at

-- The linked lists and cursors of a traversal fit the piece.
abbrev pub HasTraversalTables : PieceValue → Traversal → Type 0
HasTraversalTables p o =
    AreCursors p.edges (length p.junctions) (WasPassed o.passed.items) o.ends.last.items
    o.ends.before.items o.at

-- A traversal over a piece that began with the first line, forwards.
pub record IsTraversal (p : PieceValue) (o : Traversal) : Type 0 where
  pub keeps : KeepsTraversal p o
  pub ready : HasTraversalTables p o
  pub begins : BeginsWith (first_line p.lines) o.walk
  pub first : get_or o.passed.items 0 false ≡ true
