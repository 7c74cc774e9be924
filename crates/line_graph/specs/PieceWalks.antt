-- Walks in the graph of a piece, after J. Edmonds and E. L. Johnson, "Matching, Euler tours and the
-- Chinese postman", Mathematical Programming 5 (1973). A walk is a list of passes. A pass follows
-- one line, forwards or backwards (`back`). The lists `lines` and `edges` of a piece have equal
-- length: each line has the edge at the same index. Costs count steps.
use Rattle.std.specs.Prelude.{◌≡◌, ℕ, ◌+◌, ◌≤◌, ◌==◌, ◌&&◌, ◌||◌, Bool, true, false, List, [], ◌∷◌, Option, Some, None, nat_lt, if◌then◌else◌}
use Rattle.std.specs.Option.{option_or}
use Rattle.line_graph.specs.declared.edge.Edge.{Edge}
use Rattle.line_graph.specs.declared.pass.Pass.{Pass}
use Rattle.line_graph.specs.PieceGraphs.{PieceValue, one_if, given_start, given_end}

-- The edge of a line, if the line is in the piece.
abbrev pub edge_of : List ℕ → List Edge → ℕ → Option Edge
edge_of [] edges line = None
edge_of (n ∷ lines) [] line = None
edge_of (n ∷ lines) (e ∷ edges) line = if line == n then Some e else edge_of lines edges line

-- The junction where a pass along an edge starts.
abbrev pub pass_start : Edge → Bool → ℕ
pass_start e back = if back then e.b else e.a

-- The junction where a pass along an edge ends.
abbrev pub pass_end : Edge → Bool → ℕ
pass_end e back = if back then e.a else e.b

-- The junction that a pass along an edge reaches from the junction `at`, if the pass starts there.
abbrev pub after_edge : Option Edge → Bool → ℕ → Option ℕ
after_edge None back at = None
after_edge (Some e) back at = if pass_start e back == at then Some (pass_end e back) else None

-- The junction that a pass reaches from a junction, if its line is in the piece and it starts at
-- that junction.
abbrev pub after_pass : List ℕ → List Edge → Pass → Option ℕ → Option ℕ
after_pass lines edges pass None = None
after_pass lines edges pass (Some at) = after_edge (edge_of lines edges pass.line) pass.back at

-- The junction where a walk from `at` ends. There is none where a pass leaves the piece, or doesn't
-- start where the pass before it ends.
abbrev pub walk_end_from : List ℕ → List Edge → Option ℕ → List Pass → Option ℕ
walk_end_from lines edges at [] = at
walk_end_from lines edges at (pass ∷ rest) = walk_end_from lines edges
    (after_pass lines edges pass at) rest

-- The junction where a pass along an edge starts, if there is an edge.
abbrev pub pass_start_on : Option Edge → Bool → Option ℕ
pass_start_on None back = None
pass_start_on (Some e) back = Some (pass_start e back)

-- The junction where the first pass of a walk starts, if there is one.
abbrev pub walk_start : List ℕ → List Edge → List Pass → Option ℕ
walk_start lines edges [] = None
walk_start lines edges (pass ∷ rest) = pass_start_on (edge_of lines edges pass.line) pass.back

-- Two optional junctions are both present and equal.
abbrev pub are_same_junction : Option ℕ → Option ℕ → Bool
are_same_junction (Some a) (Some b) = a == b
are_same_junction (Some a) None = false
are_same_junction None other = false

-- The junction where a walk over a piece must start: the given one, else where its first pass
-- starts.
abbrev pub required_start : PieceValue → List Pass → Option ℕ
required_start p walk = option_or (given_start p) (walk_start p.lines p.edges walk)

-- The junction where a walk over a piece must end: the given one, else where its first pass starts.
abbrev pub required_end : PieceValue → List Pass → Option ℕ
required_end p walk = option_or (given_end p) (walk_start p.lines p.edges walk)

-- A walk leads from its required start to its required end. Where a piece has neither start nor
-- end, the walk is closed.
abbrev pub is_walk_start_to_end : PieceValue → List Pass → Bool
is_walk_start_to_end p walk = are_same_junction
    (walk_end_from p.lines p.edges (required_start p walk) walk) (required_end p walk)

-- A walk passes a line at least once.
abbrev pub is_line_passed : ℕ → List Pass → Bool
is_line_passed line [] = false
is_line_passed line (pass ∷ rest) = pass.line == line || is_line_passed line rest

-- A walk passes each of the given lines at least once.
abbrev pub covers : List ℕ → List Pass → Bool
covers [] walk = true
covers (line ∷ lines) walk = is_line_passed line walk && covers lines walk

-- A fitting walk of a piece: it leads from the required start to the required end and passes each
-- line.
abbrev pub is_fitting_walk : PieceValue → List Pass → Bool
is_fitting_walk p walk = is_walk_start_to_end p walk && covers p.lines walk

-- The number of times that a walk passes a line.
abbrev pub passes : ℕ → List Pass → ℕ
passes line [] = 0
passes line (pass ∷ rest) = one_if (pass.line == line) + passes line rest

-- The value of a function at an edge, or 0 where there is no edge.
abbrev pub edge_value : (Edge → ℕ) → Option Edge → ℕ
edge_value f None = 0
edge_value f (Some e) = f e

-- The sum of a function of edges over the passes of a walk.
abbrev pub pass_sum : List ℕ → List Edge → (Edge → ℕ) → List Pass → ℕ
pass_sum lines edges f [] = 0
pass_sum lines edges f (pass ∷ rest) = edge_value f (edge_of lines edges pass.line)
    + pass_sum lines edges f rest

-- The sum of a function over a list of edges.
abbrev pub edge_sum : (Edge → ℕ) → List Edge → ℕ
edge_sum f [] = 0
edge_sum f (e ∷ edges) = f e + edge_sum f edges

-- The cost of an edge.
abbrev pub edge_cost : Edge → ℕ
edge_cost e = e.cost

-- The cost of a walk: the sum of the costs of its passes.
abbrev pub walk_cost : PieceValue → List Pass → ℕ
walk_cost p walk = pass_sum p.lines p.edges edge_cost walk

-- The cost of a piece: the sum of the costs of its lines, each once.
abbrev pub piece_cost : PieceValue → ℕ
piece_cost p = edge_sum edge_cost p.edges

-- A least walk: no fitting walk of the piece costs less.
abbrev pub IsLeastWalk : PieceValue → List Pass → Type 0
IsLeastWalk p walk = (other : List Pass) → is_fitting_walk p other ≡ true
    → walk_cost p walk ≤ walk_cost p other

-- The first pass of a walk follows the given line forwards.
abbrev pub BeginsWith : ℕ → List Pass → Type 0
BeginsWith line [] = ⊥
BeginsWith line (pass ∷ rest) = pass ≡ record { line = line; back = false }

-- All numbers of a list are greater than n.
abbrev pub all_greater : ℕ → List ℕ → Bool
all_greater n [] = true
all_greater n (m ∷ rest) = nat_lt n m && all_greater n rest

-- A list of numbers increases strictly: each number is greater than all before it.
abbrev pub is_strictly_increasing : List ℕ → Bool
is_strictly_increasing [] = true
is_strictly_increasing (n ∷ rest) = all_greater n rest && is_strictly_increasing rest
